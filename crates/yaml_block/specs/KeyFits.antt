-- The first key of a block mapping, read with no more room than what stands in the mapping has.
use Rattle.std.specs.Prelude.{◌≡◌, ◌++◌, ℕ, zero, suc, ◌<◌, List, length}
use Rattle.yaml_definitions.specs.model.Event.{Event}
use Rattle.yaml_definitions.specs.grammar.Separation.{flow_out}
use Rattle.yaml_definitions.specs.grammar.Tags.{Handles}
use Rattle.yaml_definitions.specs.grammar.Events.{Props}
use Rattle.yaml_definitions.specs.grammar.Nodes.{wide}
use Rattle.yaml_layout.specs.PropertyDecisions.{IsRefused}
use Rattle.yaml_layout.specs.NodeRules.{Bare}
use Rattle.yaml_layout.specs.declared.flow.Kind.{Kind}
use Rattle.yaml_layout.specs.declared.flow.Kind.TheVariants.{Yaml, Json}

-- the events es that were put down since a mark became fs
pub record Becomes {S : Type 0} (holds : S → List Event → Type 0) (start : ℕ) (es fs : List Event) (before after : S) : Type 0 where
  pub is : (log : List Event) → start ≡ length log → holds before (log ++ es) → holds after (log ++ fs)

module _ (cs : List ℕ) (handles : Handles) where
  -- no flow node goes on that opens at most as many collections as may be open in a mapping
  abbrev pub NoneBelow : ℕ → ℕ → ℕ → Type 0
  NoneBelow zero col i = Unit {0}
  NoneBelow (suc room) col i = IsRefused cs handles room col flow_out i Yaml × IsRefused cs handles room col flow_out i Json

  -- a node that was put down since a mark was put down again, and opens fewer than room
  abbrev pub FitsAgain : {S : Type 0} → ℕ → Props → ℕ → ℕ → ℕ → ℕ → Kind → ℕ → (S → List Event → Type 0) → ℕ → S → S → Type 0
  FitsAgain col p e i j deep kind room holds start mid new = (es : List Event) → Bare cs wide handles deep kind col flow_out p e i j es
      → (d : ℕ) × (k : Kind) × (fs : List Event) × (d < room) × Becomes holds start es fs mid new × Bare cs wide handles d k col flow_out p e i j fs
