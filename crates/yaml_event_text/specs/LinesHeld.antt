-- The lines of a reader's events, and what calls do to them.
use Rattle.std.specs.Prelude.{◌≡◌, ◌+◌, ℕ, false, List, [], ◌∷◌, ◌++◌, length, map, take, drop, get_or}
use Rattle.std.specs.List.{insert_slice}
use Rattle.std.specs.String.{string_bytes}
use Rattle.yaml_definitions.specs.model.Event.{Event}
use Rattle.yaml_definitions.specs.model.EventText.{event_line, events_text}
use Rattle.yaml_definitions.specs.grammar.Events.{Props}
use Rattle.yaml_sink.specs.PropertyRules.{dressed}
use Rattle.yaml_event_text.specs.declared.lines.Lines.{Lines}

-- the offsets at which the lines of events begin, the first at this one
unfoldable pub starts_from : ℕ → List Event → List ℕ
starts_from at [] = []
starts_from at (e ∷ es) = at ∷ starts_from (at + length (event_line e ++ (10 ∷ []))) es

-- these are the lines of the events
pub record Written (l : Lines) (log : List Event) : Type 0 where
  pub text : string_bytes l.text ≡ events_text log
  pub starts : l.starts.items ≡ starts_from 0 log

-- the events that were put down and not taken back; nothing but how many they are, where a line could not be altered
pub record LinesHold (l : Lines) (log : List Event) : Type 0 where
  pub count : length l.starts.items ≡ length log
  pub is : l.failed ≡ false → Written l log

-- ---- what calls do

-- a line begins at the text's end
pub record Begins (before after : Lines) : Type 0 where
  pub text : after.text ≡ before.text
  pub starts : after.starts.items ≡ before.starts.items ++ (length (string_bytes before.text) ∷ [])
  pub failed : after.failed ≡ before.failed

-- a line more
pub record Grows (before : Lines) (line : List ℕ) (after : Lines) : Type 0 where
  pub text : string_bytes after.text ≡ string_bytes before.text ++ line
  pub starts : after.starts.items ≡ before.starts.items ++ (length (string_bytes before.text) ∷ [])
  pub failed : after.failed ≡ before.failed

-- a piece more in the text
pub record Fills (before : Lines) (at : ℕ) (piece : List ℕ) (after : Lines) : Type 0 where
  pub text : string_bytes after.text ≡ insert_slice (string_bytes before.text) at piece
  pub failed : after.failed ≡ before.failed

-- a line more before that of an event
pub record Inserts (before : Lines) (event : ℕ) (line : List ℕ) (after : Lines) : Type 0 where
  pub at : ℕ
  pub is_at : at ≡ get_or before.starts.items event (length (string_bytes before.text))
  pub text : string_bytes after.text ≡ insert_slice (string_bytes before.text) at line
  pub starts : after.starts.items ≡ take event before.starts.items ++ at ∷ map (λ n. n + length line) (drop event before.starts.items)
  pub failed : after.failed ≡ before.failed

-- what is noted of properties is no part of the lines
pub record IsBeside (before after : Lines) : Type 0 where
  pub text : after.text ≡ before.text
  pub starts : after.starts ≡ before.starts
  pub failed : after.failed ≡ before.failed

-- what was noted stands in an event's line
pub record Gives (before : Lines) (event at : ℕ) (after : Lines) : Type 0 where
  pub text : string_bytes after.text ≡ insert_slice (string_bytes before.text) at (string_bytes before.given)
  pub starts : after.starts.items ≡ take (event + 1) before.starts.items ++ map (λ n. n + length (string_bytes before.given)) (drop (event + 1) before.starts.items)
  pub failed : after.failed ≡ before.failed

-- an event has properties in its line
pub record DressesLine (before : Lines) (event : ℕ) (p : Props) (after : Lines) : Type 0 where
  pub is : (log es : List Event) → event ≡ length log → Written before (log ++ es) → Written after (log ++ dressed p es)
  pub failed : after.failed ≡ before.failed
