-- What the parts of a flow node decide (YAML 1.2.2, 7.4).
use Rattle.std.specs.Prelude.{◌≡◌, ◌⊎◌, ℕ, List, Result, Ok, Err}
use Rattle.yaml_definitions.specs.model.Event.{Event}
use Rattle.yaml_definitions.specs.grammar.Rules.{Rule}
use Rattle.yaml_definitions.specs.grammar.Separation.{Ctx}
use Rattle.yaml_definitions.specs.grammar.Events.{Props}
use Rattle.yaml_text.specs.declared.fault.Fault.{Fault}
use Rattle.yaml_text.specs.declared.fault.Fault.TheVariants.{OutOfMemory}
use Rattle.law_going_on.specs.GoingOn.{Refused, Goes, Here}
use Rattle.law_going_on.specs.FlowEnds.{InFlow}
use Rattle.yaml_layout.specs.NodeAnswer.{Decides}
use Rattle.yaml_flow.specs.FlowRules.{SignAt}
use Rattle.yaml_layout.specs.Keys.{Spaced, IsKeySized}
use Rattle.yaml_layout.specs.declared.flow.Kind.{Kind}

-- after a node from i to j no colon makes it the key of a pair; one does, but it is no key by its size
abbrev pub NoKey : List ℕ → Kind → Ctx → ℕ → ℕ → Type 0
NoKey cs kind c i j = (q : ℕ) × Spaced cs j q × (SignAt kind c cs q → IsKeySized cs i q → ⊥)

abbrev pub LongKey : List ℕ → Kind → Ctx → ℕ → ℕ → Type 0
LongKey cs kind c i j = (q : ℕ) × Spaced cs j q × SignAt kind c cs q × (IsKeySized cs i q → ⊥)

-- an item, an entry or a value: separation and a comma or a closing bracket follow it
abbrev pub DecidesPart : {X : Type 0} → List ℕ → ℕ → Rule (List Event) → ℕ → (X → ℕ) → Result X Fault → Type 0
DecidesPart cs n R i end result = Decides R (InFlow cs n) i (InFlow cs n) end result

-- a flow collection, after any properties: one end whatever follows
abbrev pub DecidesEach : {X : Type 0} → (Props → Rule (List Event)) → ℕ → (X → ℕ) → Result X Fault → Type 0
DecidesEach R i end (Ok x) = (p : Props) → Goes (R p) Here i Here (end x)
DecidesEach R i end (Err e) = (e ≡ OutOfMemory) ⊎ ((p : Props) → Refused (R p) Here i)
