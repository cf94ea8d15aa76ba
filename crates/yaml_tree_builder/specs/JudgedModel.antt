-- What a builder was told up to the first event that is refused, and behind it.
use Rattle.std.specs.Prelude.{◌≡◌, ◌<◌, ◌≤◌, ℕ, List, [], ◌∷◌, ◌++◌, length, Option, Some, None, Err}
use Rattle.yaml_definitions.specs.model.Event.{Event}
use Rattle.yaml_tree.specs.ComposerSteps.{initial_state, steps}
use Rattle.yaml_tree_builder.specs.BuilderLog.{Follows}
use Rattle.yaml_tree_builder.specs.Refusals.{cause_of}
use Rattle.yaml_tree_builder.specs.declared.stop.Refusal.{Refusal}
use Rattle.yaml_tree_builder.specs.declared.builder.TreeBuilder.{TreeBuilder}
use Rattle.yaml_tree_builder.specs.declared.judged.Judged.{Judged}

-- among these events this one is refused, and none before it
abbrev pub IsFirstRefused : Refusal → List Event → Type 0
IsFirstRefused r told = steps 0 told initial_state ≡ Some (Err (cause_of r.cause, r.at))

-- the builder follows what it was told, unless an event is refused
abbrev pub FollowsUnless : Option Refusal → TreeBuilder → List Event → Type 0
FollowsUnless None c told = Follows c told
FollowsUnless (Some r) c told = IsFirstRefused r told

-- these events were told
abbrev pub Judges : Judged → List Event → Type 0
Judges j told = FollowsUnless j.refusal j.builder told

-- an event before this one is refused
abbrev pub IsBefore : ℕ → Option Refusal → Type 0
IsBefore start None = ⊥
IsBefore start (Some r) = r.at < start

-- none is
abbrev pub IsNoneBefore : ℕ → Option Refusal → Type 0
IsNoneBefore start None = Unit {0}
IsNoneBefore start (Some r) = start ≤ r.at

-- One event more was told, which has this number.
pub record Takes (at : ℕ) (e : Event) (before after : Judged) : Type 0 where
  pub is : (told : List Event) → at ≡ length told → Judges before told → Judges after (told ++ (e ∷ []))
