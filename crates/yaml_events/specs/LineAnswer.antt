-- What the reading of an event text, and of its parts, answers.
use Rattle.std.specs.Prelude.{◌≡◌, ◌≢◌, ◌↔◌, ℕ, Bool, true, List, ◌∷◌, Option, Some, None, Result, Ok, Err}
use Rattle.percent_encoding.specs.declared.DecodeError.{DecodeError}
use Rattle.percent_encoding.specs.declared.DecodeError.TheVariants as decoding
use Rattle.yaml_events.specs.declared.fault.EventFault.{EventFault}
use Rattle.yaml_events.specs.declared.fault.EventFault.TheVariants as text_faults
use Rattle.yaml_events.specs.declared.fault.LineFault.{LineFault}
use Rattle.yaml_events.specs.declared.fault.LineFault.TheVariants.{NoEvent, OutOfMemory}
use Rattle.yaml_definitions.specs.model.Event.{Event}
use Rattle.yaml_definitions.specs.model.EventText.{EventText}
use Rattle.yaml_events.specs.Lines.{IsFirstBadLine}

-- the fault of a line, as that of the text
abbrev pub fault_of : LineFault → ℕ → EventFault
fault_of NoEvent number = text_faults.BadLine number
fault_of OutOfMemory number = text_faults.OutOfMemory

-- bytes that are not UTF-8 make no tag
abbrev pub decoding_fault : DecodeError → LineFault
decoding_fault (decoding.Utf8 place) = NoEvent
decoding_fault decoding.OutOfMemory = OutOfMemory

-- A bad line is the first one; of want of memory nothing is said.
abbrev pub RefusesEventText : List ℕ → EventFault → Type 0
RefusesEventText text (text_faults.BadLine number) = IsFirstBadLine text number
RefusesEventText text text_faults.OutOfMemory = Unit {0}

-- The answer is one of the things looked for, and the only one that may be expected there; or nothing may be.
abbrev pub Parses : {T A : Type 0} → (A → Type 0) → (A → Type 0) → (T → A) → Result T LineFault → Type 0
Parses {A = A} Is Expected view (Ok x) = Is (view x) × ((a : A) → Expected a → view x ≡ a)
Parses {A = A} Is Expected view (Err NoEvent) = (a : A) → Expected a → ⊥
Parses Is Expected view (Err OutOfMemory) = Unit {0}

-- The text is one of events, and the answer is whether they are these.
pub record TellsEventText (text : List ℕ) (events : List Event) (answer : Bool) : Type 0 where
  pub wanted : List Event
  pub is : EventText text wanted
  pub tells : (answer ≡ true) ↔ (events ≡ wanted)

-- what a refusal says of what may be expected
abbrev pub RefusesPart : LineFault → {A : Type 0} → (A → Type 0) → Type 0
RefusesPart NoEvent {A} P = (a : A) → P a → ⊥
RefusesPart OutOfMemory P = Unit {0}

-- The events behind the first, which is this one; or they do not begin with it.
abbrev pub Behind : Event → List Event → Option (List Event) → Type 0
Behind e left (Some rest) = left ≡ e ∷ rest
Behind e left None = (rest : List Event) → left ≢ e ∷ rest

-- the same where some may have differed before
abbrev pub StillBehind : Event → Option (List Event) → Option (List Event) → Type 0
StillBehind e (Some left) next = Behind e left next
StillBehind e None next = next ≡ None
