-- Which refusals there are of reading a file, and the line that tells each on standard error.
use Rattle.std.specs.Prelude.{◌≡◌, ◌++◌, ◌⊎◌, ℕ, List, Option, codes}
use Rattle.std.specs.Fmt.{decimal}
use Rattle.yaml_text.specs.Fault.{fault_number, fault_name}
use Rattle.yaml_text.specs.declared.fault.Fault.{Fault}
use Rattle.yaml_text.specs.declared.fault.Fault.TheVariants as fault
use Rattle.yaml_text.specs.declared.counted.Counted.{Counted}
use Rattle.yaml_definitions.specs.model.Limits.{text_limit}
use Rattle.yaml_text.specs.Gathering.{GatherFails}
use Rattle.yaml_text.specs.Writers.{Printed, Broken}
use Rattle.yaml_text.specs.declared.side.Side.{Side}
use Rattle.yaml_text.specs.declared.side.Side.TheVariants.{Left, Right}
use Rattle.yaml_events.specs.declared.fault.EventFault.TheVariants.{BadLine, OutOfMemory as NoRoom}
use Rattle.yaml_args.specs.declared.words.WordsFault.TheVariants.{Usage, OutOfMemory as NoMemory}
use Rattle.yaml_command.specs.declared.refusal.Refusal.{Refusal}
use Rattle.yaml_command.specs.declared.refusal.Refusal.TheVariants.{Words, CannotOpen, Input, OneSide, EventText, EventLines}

-- the greatest length of an event text, in bytes
abbrev pub events_limit : ℕ
events_limit = 1073741824

-- what stands on the line behind a fault's name: its place, and the line feed
abbrev pub place_end : Fault → List ℕ
place_end (fault.NotUtf8 at) = codes " at byte " ++ decimal at ++ codes "\n"
place_end (fault.NotPrintable at) = codes " at byte " ++ decimal at ++ codes "\n"
place_end (fault.Syntax at) = codes " at byte " ++ decimal at ++ codes "\n"
place_end (fault.Tab at) = codes " at byte " ++ decimal at ++ codes "\n"
place_end (fault.KeyTooLong at) = codes " at byte " ++ decimal at ++ codes "\n"
place_end (fault.TooDeep at) = codes " at byte " ++ decimal at ++ codes "\n"
place_end (fault.BadEscape at) = codes " at byte " ++ decimal at ++ codes "\n"
place_end (fault.BadDirective at) = codes " at byte " ++ decimal at ++ codes "\n"
place_end (fault.UnknownHandle at) = codes " at byte " ++ decimal at ++ codes "\n"
place_end (fault.BadTag at) = codes " at byte " ++ decimal at ++ codes "\n"
place_end (fault.UndefinedAlias at) = codes " at event " ++ decimal at ++ codes "\n"
place_end (fault.CyclicAlias at) = codes " at event " ++ decimal at ++ codes "\n"
place_end (fault.WrongKind at) = codes " at event " ++ decimal at ++ codes "\n"
place_end (fault.BadContent at) = codes " at event " ++ decimal at ++ codes "\n"
place_end (fault.IntRange at) = codes " at event " ++ decimal at ++ codes "\n"
place_end (fault.FloatRange at) = codes " at event " ++ decimal at ++ codes "\n"
place_end (fault.TooHigh at) = codes " in document " ++ decimal at ++ codes "\n"
place_end (fault.EqualKeys at i j) = codes " in node " ++ decimal at ++ codes ", entries " ++ decimal i ++ codes " and " ++ decimal j ++ codes "\n"
place_end _ = codes "\n"

-- the line of a fault, which begins with this text before the fault's number
abbrev pub fault_line : List ℕ → Fault → List ℕ
fault_line front f = front ++ decimal (fault_number f) ++ codes " " ++ fault_name f ++ place_end f

abbrev pub side_text : Side → List ℕ
side_text Left = codes "yaml: left: "
side_text Right = codes "yaml: right: "

-- the line of a refusal
abbrev pub line_text : Refusal → List ℕ
line_text (Words Usage) = codes "yaml: usage\n"
line_text (Words NoMemory) = fault_line (codes "yaml: ") fault.OutOfMemory
line_text (CannotOpen name) = codes "yaml: cannot open " ++ name.now ++ codes "\n"
line_text (Input fault) = fault_line (codes "yaml: ") fault
line_text (OneSide side fault) = fault_line (side_text side) fault
line_text (EventText fault) = fault_line (codes "yaml: events: ") fault
line_text (EventLines (BadLine line)) = codes "yaml: events: bad line " ++ decimal line ++ codes "\n"
line_text (EventLines NoRoom) = fault_line (codes "yaml: events: ") fault.OutOfMemory

-- The line of a refusal was written whole and the writer flushed, or the writer took a beginning of it and then a call failed.
abbrev pub Told : {E : Type 0} → (E → Option (List ℕ)) → Counted E → Counted E → Refusal → Type 0
Told contents old new refusal = Printed contents old new (line_text refusal) ⊎ Broken contents old new (line_text refusal)

module _ {R : Type 0} (remaining : R → Option (List ℕ)) where
  -- the file had more bytes than it may have, memory was refused, or a call failed
  abbrev pub InputFails : Counted R → Counted R → Refusal → Type 0
  InputFails old new (Input fault) = GatherFails remaining old new text_limit fault
  InputFails old new _ = ⊥

  abbrev pub SideFails : Side → Counted R → Counted R → Refusal → Type 0
  SideFails side old new (OneSide told fault) = (told ≡ side) × GatherFails remaining old new text_limit fault
  SideFails side old new _ = ⊥

  abbrev pub LinesFail : Counted R → Counted R → Refusal → Type 0
  LinesFail old new (EventText fault) = GatherFails remaining old new events_limit fault
  LinesFail old new _ = ⊥
