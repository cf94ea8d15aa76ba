-- Where a node's own properties stand (YAML 1.2.2, 6.9).
use Rattle.std.specs.Prelude.{ℕ, ◌≤◌, Option}
use Rattle.std.specs.Borrow.{Bor}
use Rattle.yaml_definitions.specs.grammar.Separation.{Ctx}
use Rattle.yaml_text.specs.Source.{text_of, place_of, IsBorder}
use Rattle.yaml_text.specs.declared.chars.Chars.{Chars}
use Rattle.yaml_mark.specs.HandlesModel.{handles_of}
use Rattle.yaml_mark.specs.declared.handles.Handles.{Handles}
use Rattle.yaml_sink.specs.PropertyRules.{props_of, Own}
use Rattle.yaml_sink.specs.declared.properties.Properties.{Properties}
use Rattle.yaml_layout.specs.PropertyDecisions.{AllProperties}

-- these are all properties that stand from at to end, or none stand there and end is at
pub record StandFrom (source : Chars) (handles : Option (Bor Handles)) (n : ℕ) (c : Ctx) (at end : ℕ) (properties : Properties) : Type 0 where
  pub border : IsBorder source end
  pub onward : at ≤ end
  pub own : Own (text_of source) (handles_of handles) n c (place_of source at) (place_of source end) (props_of properties)
  pub all : AllProperties (text_of source) (handles_of handles) n c (place_of source at) (place_of source end) (props_of properties)
