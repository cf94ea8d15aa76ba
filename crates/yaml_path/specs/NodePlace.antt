-- Where a node stands in a text.
use Rattle.std.specs.Prelude.{ℕ, ◌≤◌, ◌⊎◌, ◌≡◌, List}
use Rattle.yaml_definitions.specs.model.Event.{Event}
use Rattle.yaml_definitions.specs.grammar.Rules.{Stands}
use Rattle.yaml_definitions.specs.grammar.Characters.{is_ns}
use Rattle.yaml_definitions.specs.grammar.Separation.{Ctx, s-separate as separate, s-l-comments as s_l_comments}
use Rattle.yaml_definitions.specs.grammar.Tags.{Handles}
use Rattle.yaml_definitions.specs.grammar.Nodes.{Part, reads, wide}

-- Behind separation and comment lines, at which the productions of block nodes begin (8.2.3), the node's first character stands here, and its production reads exactly these events.
pub record StandsAt (cs : List ℕ) (handles : Handles) (es : List Event) (at : ℕ) : Type 0 where
  pub part : Part
  pub room : ℕ
  pub begin : ℕ
  pub end : ℕ
  pub reads : reads cs wide handles room part begin end es
  pub onward : at ≤ end
  pub n : ℕ
  pub c : Ctx
  pub behind : (begin ≡ at) ⊎ (separate cs n c begin at ⊎ s_l_comments cs begin at)
  pub first : (at ≡ end) ⊎ Stands cs is_ns at
