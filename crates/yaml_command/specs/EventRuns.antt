-- What `events` does to its input and its output.
use Rattle.std.specs.Prelude.{◌≡◌, ℕ, List, Option}
use Rattle.yaml_definitions.specs.model.Limits.{text_limit}
use Rattle.yaml_text.specs.declared.fault.Fault.{Fault}
use Rattle.yaml_text.specs.declared.fault.Fault.TheVariants.{TooLong, OutOfMemory, ReadFault, WriteFault}
use Rattle.yaml_text.specs.declared.counted.Counted.{Counted}
use Rattle.yaml_text.specs.Gathering.{Gathers}
use Rattle.yaml_text.specs.Gathering.{FailsReading}
use Rattle.yaml_text.specs.Writers.{Printed, Broken}
use Rattle.yaml_event_text.specs.EventTextAnswer.{IsEventText, IsUnread}

module _ {W : Type 0} (contents : W → Option (List ℕ)) where
  -- the event text of the bytes was written
  pub record TextPrinted (bytes : List ℕ) (old new : Counted W) : Type 0 where
    pub text : List ℕ
    pub is_text : IsEventText bytes text
    pub printed : Printed contents old new text

  -- a beginning of the event text of the bytes was written; or they are not read, and no call of the writer was made
  abbrev pub TextFails : List ℕ → Counted W → Counted W → Fault → Type 0
  TextFails bytes old new WriteFault = (text : List ℕ) × IsEventText bytes text × Broken contents old new text
  TextFails bytes old new fault = IsUnread bytes fault × (new ≡ old)

module _ {R W : Type 0} (remaining : R → Option (List ℕ)) (contents : W → Option (List ℕ)) where
  -- The reader gave all that it had, and its event text was written.
  pub record EventsPrinted (input end : Counted R) (old new : Counted W) : Type 0 where
    pub bytes : List ℕ
    pub text : List ℕ
    pub gathers : Gathers remaining input end text_limit bytes
    pub is_text : IsEventText bytes text
    pub printed : Printed contents old new text

  -- The reader gave all that it had, and a beginning of its event text was written.
  pub record EventsBroken (input end : Counted R) (old new : Counted W) : Type 0 where
    pub bytes : List ℕ
    pub text : List ℕ
    pub gathers : Gathers remaining input end text_limit bytes
    pub is_text : IsEventText bytes text
    pub broken : Broken contents old new text

  -- The reader gave all that it had, and that is not read; no call of the writer was made.
  pub record EventsRefused (input end : Counted R) (old new : Counted W) (fault : Fault) : Type 0 where
    pub bytes : List ℕ
    pub gathers : Gathers remaining input end text_limit bytes
    pub unread : IsUnread bytes fault
    pub untouched : new ≡ old

  -- why the event text was not written
  abbrev pub EventsFail : Counted R → Counted R → Counted W → Counted W → Fault → Type 0
  EventsFail input end old new TooLong = FailsReading contents remaining input end old new TooLong
  EventsFail input end old new OutOfMemory = FailsReading contents remaining input end old new OutOfMemory
  EventsFail input end old new ReadFault = FailsReading contents remaining input end old new ReadFault
  EventsFail input end old new WriteFault = EventsBroken input end old new
  EventsFail input end old new fault = EventsRefused input end old new fault
