-- What is known of the files that are named.
use Rattle.std.specs.Prelude.{◌≡◌, ◌<◌, ℕ, List, length, Option, None, IfSome}
use Rattle.yaml_definitions.specs.model.Limits.{text_limit}
use Rattle.yaml_text.specs.declared.fault.Fault.{Fault}
use Rattle.yaml_text.specs.declared.fault.Fault.TheVariants.{TooLong, OutOfMemory, ReadFault}
use Rattle.yaml_text.specs.declared.side.Side.{Side}
use Rattle.yaml_command.specs.Refusals.{events_limit}
use Rattle.yaml_command.specs.declared.refusal.Refusal.{Refusal}
use Rattle.yaml_command.specs.declared.refusal.Refusal.TheVariants.{CannotOpen, Input, OneSide, EventText}

-- where it is known what a file holds, the bytes are that
abbrev pub IsOf : Option (List ℕ) → List ℕ → Type 0
IsOf held bytes = IfSome held (λ known. bytes ≡ known)

-- Why a file is not read whole: it holds more than the limit, memory was refused, or a read failed.
abbrev pub FileFails : Option (List ℕ) → ℕ → Fault → Type 0
FileFails held limit TooLong = IfSome held (λ known. limit < length known)
FileFails held limit OutOfMemory = Unit {0}
FileFails held limit ReadFault = Unit {0}
FileFails held limit _ = ⊥

-- it is told by its name that a file can't be opened, of which it is not known what it holds
abbrev pub IsNotOpened : Option (List ℕ) → List ℕ → List ℕ → Type 0
IsNotOpened held name told = (told ≡ name) × (held ≡ None)

abbrev pub CannotBeOpened : Option (List ℕ) → List ℕ → Refusal → Type 0
CannotBeOpened held name (CannotOpen told) = IsNotOpened held name told.now
CannotBeOpened held name _ = ⊥

-- why the one input, one of two sides, or an event text has no bytes to be judged
abbrev pub InputUnread : Option (List ℕ) → List ℕ → Refusal → Type 0
InputUnread held name (CannotOpen told) = IsNotOpened held name told.now
InputUnread held name (Input fault) = FileFails held text_limit fault
InputUnread held name _ = ⊥

abbrev pub SideUnread : Option (List ℕ) → List ℕ → Side → Refusal → Type 0
SideUnread held name side (CannotOpen told) = IsNotOpened held name told.now
SideUnread held name side (OneSide told fault) = (told ≡ side) × FileFails held text_limit fault
SideUnread held name side _ = ⊥

abbrev pub LinesUnread : Option (List ℕ) → List ℕ → Refusal → Type 0
LinesUnread held name (CannotOpen told) = IsNotOpened held name told.now
LinesUnread held name (EventText fault) = FileFails held events_limit fault
LinesUnread held name _ = ⊥
