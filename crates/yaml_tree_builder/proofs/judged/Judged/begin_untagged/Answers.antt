use Rattle.std.proofs.Common.{[], ◌∷◌, refl}
use Rattle.std.specs.Prelude.{false}
use Rattle.yaml_definitions.specs.model.Event.{mapping_start, untagged}
use Rattle.yaml_sink.specs.PropertyRules.{props_of}
use Rattle.yaml_tree_builder.proofs.JudgedLaws.{puts-refused, puts-stepped}
use Rattle.yaml_tree_builder.proofs.judged.Judged.begin_untagged.Goals as goal

pub returns-in-Some : goal.returns-in-Some
returns-in-Some c = puts-refused c.args.self.now c.in-Some.field-0 (mapping_start false (props_of c.args.properties.now).anchor untagged ∷ []) c.in-Some.is

pub returns : goal.returns
returns c = puts-stepped c.args.self.now _ (mapping_start false (props_of c.args.properties.now).anchor untagged) c.in_default.is refl c.in_ok-begin_untagged.ensures
