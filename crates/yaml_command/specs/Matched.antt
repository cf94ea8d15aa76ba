-- What `check` prints of an input and an event text.
use Rattle.std.specs.Prelude.{◌≡◌, ◌↔◌, ℕ, Bool, true, cond, List, Option, codes}
use Rattle.std.specs.Str.{IsUtf8, IsValidUpTo}
use Rattle.yaml_definitions.specs.model.Event.{Event}
use Rattle.yaml_definitions.specs.model.EventText.{EventText}
use Rattle.yaml_definitions.specs.grammar.Reading.{Reads}
use Rattle.yaml_text.specs.declared.fault.Fault.{Fault}
use Rattle.yaml_text.specs.declared.fault.Fault.TheVariants.{NotUtf8, WriteFault}
use Rattle.yaml_text.specs.declared.counted.Counted.{Counted}
use Rattle.yaml_text.specs.Writers.{Printed, Broken}
use Rattle.yaml_events.specs.LineAnswer.{RefusesEventText}
use Rattle.yaml_event_text.specs.EventTextAnswer.{IsUnread}
use Rattle.yaml_command.specs.declared.refusal.Refusal.{Refusal}
use Rattle.yaml_command.specs.declared.refusal.Refusal.TheVariants.{Input, EventText as EventTextFault, EventLines}

-- the line that `check` writes
abbrev pub match_line : Bool → List ℕ
match_line answer = cond answer (codes "match\n") (codes "differ\n")

-- The input is read, the lines are an event text, and the answer is whether their events are the same.
pub record HasEvents (input lines : List ℕ) (answer : Bool) : Type 0 where
  pub events : List Event
  pub wanted : List Event
  pub reads : Reads input events
  pub text : EventText lines wanted
  pub tells : (answer ≡ true) ↔ (events ≡ wanted)

-- the bytes are read
abbrev pub IsReadable : List ℕ → Type 0
IsReadable bytes = (events : List Event) × Reads bytes events

-- the bytes are no UTF-8 past this place
abbrev pub IsNotUtf8 : List ℕ → Fault → Type 0
IsNotUtf8 lines (NotUtf8 at) = (¬ (IsUtf8 lines)) × IsValidUpTo lines at
IsNotUtf8 lines _ = ⊥

-- Why an input is not held against an event text. The input is judged first.
abbrev pub MatchRefuses : List ℕ → List ℕ → Refusal → Type 0
MatchRefuses input lines (Input fault) = IsUnread input fault
MatchRefuses input lines (EventTextFault fault) = IsReadable input × IsNotUtf8 lines fault
MatchRefuses input lines (EventLines fault) = IsReadable input × RefusesEventText lines fault
MatchRefuses input lines _ = ⊥

module _ {W : Type 0} (contents : W → Option (List ℕ)) where
  -- the line that tells whether the input has the events of the event text was written
  pub record PrintsMatch (input lines : List ℕ) (old new : Counted W) (answer : Bool) : Type 0 where
    pub has : HasEvents input lines answer
    pub printed : Printed contents old new (match_line answer)

  -- a beginning of that line was written
  pub record BreaksMatch (input lines : List ℕ) (old new : Counted W) : Type 0 where
    pub answer : Bool
    pub has : HasEvents input lines answer
    pub broken : Broken contents old new (match_line answer)

  -- the input is not held against the event text, or writing failed
  abbrev pub MatchFails : List ℕ → List ℕ → Counted W → Counted W → Refusal → Type 0
  MatchFails input lines old new (Input WriteFault) = BreaksMatch input lines old new
  MatchFails input lines old new refusal = MatchRefuses input lines refusal × (new ≡ old)
