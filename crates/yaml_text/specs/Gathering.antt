-- What reading a reader whole does to it.
use Rattle.std.specs.Prelude.{◌≡◌, ℕ, ◌+◌, ◌≤◌, List, length, Option}
use Rattle.std.specs.Io.KnownBytes.{Consumes, IsAtEnd}
use Rattle.yaml_definitions.specs.model.Limits.{text_limit}
use Rattle.yaml_text.specs.declared.fault.Fault.{Fault}
use Rattle.yaml_text.specs.declared.fault.Fault.TheVariants.{TooLong, OutOfMemory, ReadFault}
use Rattle.yaml_text.specs.declared.counted.Counted.{Counted}
use Rattle.yaml_text.specs.CountedModel.{inner_of, faults_of}

module _ {R : Type 0} (remaining : R → Option (List ℕ)) where
  -- the reader gave these bytes, which are all that it had, and no call failed
  pub record Gathers (old new : Counted R) (limit : ℕ) (bytes : List ℕ) : Type 0 where
    pub gave : Consumes (remaining (inner_of old)) (remaining (inner_of new)) bytes
    pub end : IsAtEnd (remaining (inner_of new))
    pub short : length bytes ≤ limit
    pub counted : faults_of new ≡ faults_of old

  -- the reader had more bytes than the limit, memory was refused, or a call failed, which alone is counted
  abbrev pub GatherFails : Counted R → Counted R → ℕ → Fault → Type 0
  GatherFails old new limit TooLong = ((bytes : List ℕ) × Consumes (remaining (inner_of old)) (remaining (inner_of new)) bytes × (length bytes ≡ limit + 1)) × (faults_of new ≡ faults_of old)
  GatherFails old new limit OutOfMemory = faults_of new ≡ faults_of old
  GatherFails old new limit ReadFault = faults_of new ≡ faults_of old + 1
  GatherFails old new limit _ = ⊥

module _ {W : Type 0} (contents : W → Option (List ℕ)) where
  module _ {R : Type 0} (remaining : R → Option (List ℕ)) where
    -- The reader had more than a text may have, or memory was refused, or a call of the reader failed; no call of the writer was made.
    pub record FailsReading (input end : Counted R) (old new : Counted W) (fault : Fault) : Type 0 where
      pub fails : GatherFails remaining input end text_limit fault
      pub untouched : new ≡ old
