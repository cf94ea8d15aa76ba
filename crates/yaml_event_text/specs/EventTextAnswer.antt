-- What a text of events, and a refusal to read, say of the bytes.
use Rattle.std.specs.Prelude.{ℕ, List}
use Rattle.yaml_definitions.specs.model.Event.{Event}
use Rattle.yaml_definitions.specs.model.EventText.{EventText}
use Rattle.yaml_text.specs.Refused.{RefusesText}
use Rattle.yaml_definitions.specs.grammar.Reading.{Reads}
use Rattle.yaml_text.specs.declared.fault.Fault.{Fault}
use Rattle.yaml_text.specs.declared.fault.Fault.TheVariants.{TooLong, NotUtf8, NotPrintable, Syntax, Tab, KeyTooLong, TooDeep, BadEscape, BadDirective, UnknownHandle, BadTag, OutOfMemory}
use Rattle.yaml_text.specs.Unread.{IsNoStream}
use Rattle.yaml_text.specs.Rooms.{Places}

-- the text is that of the events that the bytes are read to
pub record IsEventText (bytes text : List ℕ) : Type 0 where
  pub events : List Event
  pub reads : Reads bytes events
  pub is : EventText text events

-- such a text is placed in a room
pub record PlacesEvents (bytes old new : List ℕ) (len : ℕ) : Type 0 where
  pub text : List ℕ
  pub is : IsEventText bytes text
  pub placed : Places text old new len

-- What a refusal to read the bytes says of them. Eight faults mean that they are a text that has no reading; which of them is told, and where, is not claimed.
abbrev pub IsUnread : List ℕ → Fault → Type 0
IsUnread bytes TooLong = RefusesText bytes TooLong
IsUnread bytes (NotUtf8 at) = RefusesText bytes (NotUtf8 at)
IsUnread bytes (NotPrintable at) = RefusesText bytes (NotPrintable at)
IsUnread bytes (Syntax at) = IsNoStream bytes
IsUnread bytes (Tab at) = IsNoStream bytes
IsUnread bytes (KeyTooLong at) = IsNoStream bytes
IsUnread bytes (TooDeep at) = IsNoStream bytes
IsUnread bytes (BadEscape at) = IsNoStream bytes
IsUnread bytes (BadDirective at) = IsNoStream bytes
IsUnread bytes (UnknownHandle at) = IsNoStream bytes
IsUnread bytes (BadTag at) = IsNoStream bytes
IsUnread bytes OutOfMemory = Unit {0}
IsUnread bytes _ = ⊥
