-- The fault that numbers stand for.
use Rattle.std.specs.Prelude.{◌≡◌, ◌==◌, if◌then◌else◌, ℕ, Option, Some, None}
use Rattle.yaml_text.specs.declared.fault.Fault.{Fault}
use Rattle.yaml_text.specs.declared.fault.Fault.TheVariants.{TooLong, NotUtf8, NotPrintable, Syntax, Tab, KeyTooLong, TooDeep, BadEscape, BadDirective, UnknownHandle, BadTag, UndefinedAlias, CyclicAlias, WrongKind, BadContent, IntRange, FloatRange, TooHigh, EqualKeys, TextTooLong, OutOfMemory, ReadFault, WriteFault}
use Rattle.yaml_text.specs.declared.side.Side.{Side}
use Rattle.yaml_c.specs.declared.fault.YamlcanonFault.{YamlcanonFault}
use Rattle.yaml_c.specs.Told.{told}

-- the fault of a number, at a place, and of two entries; a number below 1 or above 23 has none
abbrev pub fault_with : ℕ → ℕ → ℕ → ℕ → Option Fault
fault_with number at i j =
    if number == 1 then Some TooLong else if number == 2 then Some (NotUtf8 at) else if number == 3 then Some (NotPrintable at)
    else if number == 4 then Some (Syntax at) else if number == 5 then Some (Tab at) else if number == 6 then Some (KeyTooLong at)
    else if number == 7 then Some (TooDeep at) else if number == 8 then Some (BadEscape at) else if number == 9 then Some (BadDirective at)
    else if number == 10 then Some (UnknownHandle at) else if number == 11 then Some (BadTag at) else if number == 12 then Some (UndefinedAlias at)
    else if number == 13 then Some (CyclicAlias at) else if number == 14 then Some (WrongKind at) else if number == 15 then Some (BadContent at)
    else if number == 16 then Some (IntRange at) else if number == 17 then Some (FloatRange at) else if number == 18 then Some (TooHigh at)
    else if number == 19 then Some (EqualKeys at i j) else if number == 20 then Some TextTooLong else if number == 21 then Some OutOfMemory
    else if number == 22 then Some ReadFault else if number == 23 then Some WriteFault else None

-- the fault that a caller's numbers stand for; its side and its name are not looked at
abbrev pub fault_in : YamlcanonFault → Option Fault
fault_in f = fault_with f.number f.place f.first f.second

-- A fault that is told comes back.
abbrev pub FaultsComeBack : Type 0
FaultsComeBack = (side : Side) (fault : Fault) → fault_in (told side fault) ≡ Some fault
