-- What an error says where a file is read once more.
use Rattle.std.specs.Prelude.{◌≡◌, ◌⊎◌, ℕ, true, List}
use Rattle.yaml_definitions.specs.model.Event.{Event}
use Rattle.yaml_definitions.specs.grammar.Reading.{Reads}
use Rattle.yaml_text.specs.declared.fault.Fault.{Fault}
use Rattle.yaml_text.specs.declared.fault.Fault.TheVariants.{OutOfMemory}
use Rattle.review_faults.specs.FaultLines.{names_event}

-- no list of events is a reading of the bytes
abbrev pub HasNoEvents : List ℕ → Type 0
HasNoEvents bytes = (es : List Event) → Reads bytes es → ⊥

-- Memory is refused, or the bytes have no reading.
abbrev pub CannotRead : List ℕ → Fault → Type 0
CannotRead bytes error = (error ≡ OutOfMemory) ⊎ HasNoEvents bytes

-- The same where a fault of the bytes is told: they are read for it only if it names an event.
abbrev pub CannotTell : List ℕ → Fault → Fault → Type 0
CannotTell bytes fault error = (error ≡ OutOfMemory) ⊎ ((names_event fault ≡ true) × HasNoEvents bytes)
