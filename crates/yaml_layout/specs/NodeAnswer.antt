-- What a call that reads says of its production.
use Rattle.std.specs.Prelude.{◌≡◌, ◌⊎◌, ℕ, List, Result, Ok, Err, Option, Some, None}
use Rattle.yaml_definitions.specs.model.Event.{Event}
use Rattle.yaml_text.specs.LeafAnswer.{IsRefusal}
use Rattle.yaml_definitions.specs.grammar.Rules.{Rule}
use Rattle.yaml_text.specs.declared.fault.Fault.{Fault}
use Rattle.yaml_text.specs.declared.fault.Fault.TheVariants.{OutOfMemory}
use Rattle.law_one_reading.specs.Readings.{End}
use Rattle.law_going_on.specs.GoingOn.{Refused, Goes}
use Rattle.yaml_sink.specs.Held.{Keeps, Puts}

-- the events of a reading by the answer's rule are put at the end
abbrev pub Appends : {X S : Type 0} → (X → Rule (List Event)) → ℕ → (X → ℕ) → (S → List Event → Type 0) → S → S → Result X Fault → Type 0
Appends R i end holds old new (Ok x) = (es : List Event) × Puts holds old es new × R x i (end x) es
Appends R i end holds old new (Err e) = IsRefusal e

-- the same where there may be nothing to read; then what was held is held
abbrev pub Perhaps : {X S : Type 0} → (X → Rule (List Event)) → ℕ → (X → ℕ) → (S → List Event → Type 0) → S → S → Result (Option X) Fault → Type 0
Perhaps R i end holds old new (Ok (Some x)) = (es : List Event) × Puts holds old es new × R x i (end x) es
Perhaps R i end holds old new (Ok None) = Keeps holds old new
Perhaps R i end holds old new (Err e) = IsRefusal e

-- where any reading of the rule goes on, the text goes on from the answer's end; a refusal means that none does, or that memory was refused
abbrev pub Decides : {V X : Type 0} → Rule V → End → ℕ → End → (X → ℕ) → Result X Fault → Type 0
Decides R E i F end (Ok x) = Goes R E i F (end x)
Decides R E i F end (Err e) = (e ≡ OutOfMemory) ⊎ Refused R E i
