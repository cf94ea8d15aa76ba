-- Two keepers of the same events.
use Rattle.std.specs.Prelude.{◌≡◌, ℕ, List, [], ◌∷◌, ◌++◌, ◌+◌, length}
use Rattle.std.specs.List.{flat_map}
use Rattle.yaml_definitions.specs.model.Event.{Event}
use Rattle.yaml_definitions.specs.grammar.Reading.{Reads}
use Rattle.yaml_canon.specs.declared.tee.Tee.{Tee}

-- both hold the events
pub record TeeHolds {A B : Type 0} (first : A → List Event → Type 0) (second : B → List Event → Type 0) (tee : Tee A B) (log : List Event) : Type 0 where
  pub first_holds : first tee.first log
  pub second_holds : second tee.second log

-- each of these bytes are read to these events
abbrev pub AllRead : List (List ℕ) → List (List Event) → Type 0
AllRead [] [] = Unit {0}
AllRead (bytes ∷ sources) (es ∷ events) = Reads bytes es × AllRead sources events
AllRead _ _ = ⊥

-- where lists end that stand one behind the other, the first from this place on
abbrev pub ends_from : {X : Type 0} → ℕ → List (List X) → List ℕ
ends_from start [] = []
ends_from start (xs ∷ xss) = (start + length xs) ∷ ends_from (start + length xs) xss

-- The events that the bytes of each stream are read to are held, those of one behind those of the other, and end there.
pub record KeepsStreams {K : Type 0} (holds : K → List Event → Type 0) (sources : List (List ℕ)) (keeper : K) (ends : List ℕ) : Type 0 where
  pub events : List (List Event)
  pub read : AllRead sources events
  pub held : holds keeper (flat_map (λ es. es) events)
  pub ends_are : ends ≡ ends_from 0 events
