-- What reading a file whole does to its reader.
use Rattle.std.specs.Prelude.{◌≡◌, ◌+◌, ◌≤◌, ℕ, List, length, Option}
use Rattle.std.specs.Io.KnownBytes.{Consumes, IsAtEnd}
use Rattle.yaml_text.specs.declared.fault.Fault.{Fault}
use Rattle.yaml_text.specs.declared.fault.Fault.TheVariants.{TooLong, OutOfMemory, ReadFault}

module _ {R : Type 0} (remaining : R → Option (List ℕ)) where
  -- the reader gave these bytes, which are all that it had
  pub record GivesAll (old new : R) (limit : ℕ) (bytes : List ℕ) : Type 0 where
    pub gave : Consumes (remaining old) (remaining new) bytes
    pub end : IsAtEnd (remaining new)
    pub short : length bytes ≤ limit

  -- the reader had more bytes than the limit, memory was refused, or a call failed
  abbrev pub GivesNotAll : R → R → ℕ → Fault → Type 0
  GivesNotAll old new limit TooLong = (bytes : List ℕ) × Consumes (remaining old) (remaining new) bytes × (length bytes ≡ limit + 1)
  GivesNotAll old new limit OutOfMemory = Unit {0}
  GivesNotAll old new limit ReadFault = Unit {0}
  GivesNotAll old new limit _ = ⊥
