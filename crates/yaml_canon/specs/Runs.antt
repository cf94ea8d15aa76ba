-- What `run_canonical` promises of its reader and its writer.
use Rattle.std.specs.Prelude.{◌≡◌, ℕ, List, Option}
use Rattle.yaml_definitions.specs.model.Limits.{text_limit}
use Rattle.yaml_text.specs.declared.fault.Fault.{Fault}
use Rattle.yaml_text.specs.declared.fault.Fault.TheVariants.{TooLong, OutOfMemory, ReadFault, WriteFault}
use Rattle.yaml_text.specs.declared.counted.Counted.{Counted}
use Rattle.yaml_canon.specs.Claims.{IsCanonicalText, CanonicalRefuses}
use Rattle.yaml_text.specs.Gathering.{Gathers, FailsReading}
use Rattle.yaml_text.specs.Writers.{Printed, Broken}

module _ {W : Type 0} (contents : W → Option (List ℕ)) where
  -- the canonical text of the bytes was written
  pub record WritesCanonical (bytes : List ℕ) (old new : Counted W) : Type 0 where
    pub text : List ℕ
    pub canonical : IsCanonicalText bytes text
    pub printed : Printed contents old new text

  -- a beginning of the canonical text of the bytes was written
  pub record BreaksOff (bytes : List ℕ) (old new : Counted W) : Type 0 where
    pub text : List ℕ
    pub canonical : IsCanonicalText bytes text
    pub broken : Broken contents old new text

  -- The bytes have no canonical text, or memory was refused, and no call of the writer was made.
  pub record RefusesUnwritten (bytes : List ℕ) (old new : Counted W) (fault : Fault) : Type 0 where
    pub refused : CanonicalRefuses bytes fault
    pub untouched : new ≡ old

  -- why the canonical text of the bytes was not written
  abbrev pub WriteRefuses : List ℕ → Counted W → Counted W → Fault → Type 0
  WriteRefuses bytes old new WriteFault = BreaksOff bytes old new
  WriteRefuses bytes old new fault = RefusesUnwritten bytes old new fault

  module _ {R : Type 0} (remaining : R → Option (List ℕ)) where
    -- The reader gave all that it had, and its canonical text was written.
    pub record RunsWhole (input end : Counted R) (old new : Counted W) : Type 0 where
      pub bytes : List ℕ
      pub gathers : Gathers remaining input end text_limit bytes
      pub writes : WritesCanonical bytes old new

    -- The reader gave all that it had, and that was refused, or writing failed.
    pub record RefusesAll (input end : Counted R) (old new : Counted W) (fault : Fault) : Type 0 where
      pub bytes : List ℕ
      pub gathers : Gathers remaining input end text_limit bytes
      pub refuses : WriteRefuses bytes old new fault

    -- why a run ends without the whole text
    abbrev pub RunFails : Counted R → Counted R → Counted W → Counted W → Fault → Type 0
    RunFails input end old new TooLong = FailsReading contents remaining input end old new TooLong
    RunFails input end old new OutOfMemory = FailsReading contents remaining input end old new OutOfMemory
    RunFails input end old new ReadFault = FailsReading contents remaining input end old new ReadFault
    RunFails input end old new fault = RefusesAll input end old new fault
