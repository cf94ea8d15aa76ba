-- What becomes of the files that are summed, and what is written of them.
use Rattle.std.specs.Prelude.{◌≡◌, ◌⊎◌, ◌==◌, ◌++◌, ℕ, Bool, true, false, max, List, [], ◌∷◌, take, Option, None}
use Rattle.std.specs.Str.{IsUtf8}
use Rattle.yaml_definitions.specs.model.Limits.{text_limit}
use Rattle.yaml_text.specs.declared.fault.Fault.{Fault}
use Rattle.yaml_text.specs.declared.fault.Fault.TheVariants.{OutOfMemory, WriteFault}
use Rattle.yaml_text.specs.declared.counted.Counted.{Counted}
use Rattle.yaml_canon.specs.Claims.{CanonicalRefuses}
use Rattle.yaml_spell.specs.Writers.{Sent, CutOff}
use Rattle.yaml_text.specs.Writers.{Printed, Broken}
use Rattle.yaml_command.specs.Shelves.{IsOf, FileFails}
use Rattle.yaml_sum.specs.Complaints.{TellsStop}
use Rattle.yaml_sum.specs.Digests.{IsDigest}
use Rattle.yaml_sum.specs.Lines.{sum_line}
use Rattle.yaml_sum.specs.Reading.{GivesAll, GivesNotAll}
use Rattle.yaml_sum.specs.Stops.{stop_status}
use Rattle.yaml_sum.specs.declared.stop.Stop.{Stop}
use Rattle.yaml_sum.specs.declared.stop.Stop.TheVariants.{CannotOpen, NotRegular, Unread, Refused}
use Rattle.yaml_sum.specs.declared.buffers.Buffers.{Buffers}

-- the line that is kept
abbrev pub kept_line : Buffers → List ℕ
kept_line b = b.line.items

-- the name of standard input, `-`
abbrev pub is_input : List ℕ → Bool
is_input (b ∷ []) = b == 45
is_input _ = false

-- what becomes of a file: it has a digest, or none
pub data Outcome : Type 0 where
  summed : (digest : List ℕ) → Outcome
  stopped : Stop → Outcome

-- the line of a file, where it has a digest
abbrev pub outcome_line : List ℕ → Outcome → List ℕ
outcome_line name (summed digest) = sum_line digest name
outcome_line name (stopped stop) = []

abbrev pub outcome_status : Outcome → ℕ
outcome_status (summed digest) = 0
outcome_status (stopped stop) = stop_status stop

-- the lines of files in turn
abbrev pub lines : List (List ℕ) → List Outcome → List ℕ
lines (name ∷ names) (outcome ∷ outcomes) = outcome_line name outcome ++ lines names outcomes
lines _ _ = []

-- the greatest status
abbrev pub worst : List Outcome → ℕ
worst [] = 0
worst (outcome ∷ outcomes) = max (outcome_status outcome) (worst outcomes)

-- Standard error has the line of a file that has no digest, or a beginning of it where a call fails, and nothing of another.
module _ {E : Type 0} (told : E → Option (List ℕ)) where
  abbrev pub Tells : List ℕ → Outcome → Counted E → Counted E → Type 0
  Tells name (summed digest) before after = after ≡ before
  Tells name (stopped stop) before after = TellsStop told name stop before after

  -- the same of files in turn
  abbrev pub TellAll : List (List ℕ) → List Outcome → Counted E → Counted E → Type 0
  TellAll [] [] before after = after ≡ before
  TellAll [] (outcome ∷ outcomes) before after = ⊥
  TellAll (name ∷ names) [] before after = ⊥
  TellAll (name ∷ names) (outcome ∷ outcomes) before after = (next : Counted E) × Tells name outcome before next × TellAll names outcomes next after

-- why a file by its name is not read: it can't be opened or is no regular file, of which it is not known what it holds, or is not read to its end
abbrev pub NotReadAs : Option (List ℕ) → List ℕ → ℕ → Stop → Type 0
NotReadAs held name limit (CannotOpen why) = (¬ (IsUtf8 name)) ⊎ (held ≡ None)
NotReadAs held name limit NotRegular = held ≡ None
NotReadAs held name limit (Unread fault) = FileFails held limit fault
NotReadAs held name limit (Refused fault) = FileFails held limit fault

-- and standard input
module _ {R : Type 0} (remaining : R → Option (List ℕ)) where
  abbrev pub InputNotRead : R → R → ℕ → Stop → Type 0
  InputNotRead old new limit (CannotOpen why) = ⊥
  InputNotRead old new limit NotRegular = ⊥
  InputNotRead old new limit (Unread fault) = GivesNotAll remaining old new limit fault
  InputNotRead old new limit (Refused fault) = GivesNotAll remaining old new limit fault

-- what the bytes hold is refused
abbrev pub IsRefused : List ℕ → Stop → Type 0
IsRefused bytes (CannotOpen why) = ⊥
IsRefused bytes NotRegular = ⊥
IsRefused bytes (Unread fault) = ⊥
IsRefused bytes (Refused fault) = CanonicalRefuses bytes fault

module _ {R : Type 0} (holds : List ℕ → Option (List ℕ)) (remaining : R → Option (List ℕ)) where
  -- the bytes of the file of this name are those that it holds, where that is known; of standard input all that the reader gave
  abbrev pub ReadFrom : Bool → List ℕ → ℕ → R → R → List ℕ → Type 0
  ReadFrom true name limit old new bytes = GivesAll remaining old new limit bytes
  ReadFrom false name limit old new bytes = IsOf (holds name) bytes × (new ≡ old)

  abbrev pub IsRead : List ℕ → ℕ → R → R → List ℕ → Type 0
  IsRead name limit old new bytes = ReadFrom (is_input name) name limit old new bytes

  -- why there are none
  abbrev pub NotReadFrom : Bool → List ℕ → ℕ → R → R → Stop → Type 0
  NotReadFrom true name limit old new stop = InputNotRead remaining old new limit stop
  NotReadFrom false name limit old new stop = NotReadAs (holds name) name limit stop × (new ≡ old)

  abbrev pub IsNotRead : List ℕ → ℕ → R → R → Stop → Type 0
  IsNotRead name limit old new stop = NotReadFrom (is_input name) name limit old new stop

  -- the digest is that of the canonical text of the file's bytes
  abbrev pub HasDigest : List ℕ → R → R → List ℕ → Type 0
  HasDigest name old new digest = (bytes : List ℕ) × IsRead name text_limit old new bytes × IsDigest bytes digest

  -- and the line is that of such a digest
  abbrev pub HasLine : List ℕ → R → R → List ℕ → Type 0
  HasLine name old new line = (digest : List ℕ) × HasDigest name old new digest × (line ≡ sum_line digest name)

  -- the file is not read, or what it holds is refused
  abbrev pub HasNone : List ℕ → R → R → Stop → Type 0
  HasNone name old new stop = IsNotRead name text_limit old new stop ⊎ ((bytes : List ℕ) × IsRead name text_limit old new bytes × IsRefused bytes stop)

  abbrev pub Becomes : List ℕ → R → R → Outcome → Type 0
  Becomes name old new (summed digest) = HasDigest name old new digest
  Becomes name old new (stopped stop) = HasNone name old new stop

  -- what becomes of each file in turn
  abbrev pub Become : List (List ℕ) → R → R → List Outcome → Type 0
  Become [] old new outcomes = (new ≡ old) × (outcomes ≡ [])
  Become (name ∷ names) old new outcomes = (next : R) × (outcome : Outcome) × (more : List Outcome) × Becomes name old next outcome × Become names next new more × (outcomes ≡ outcome ∷ more)

  module _ {W E : Type 0} (contents : W → Option (List ℕ)) (told : E → Option (List ℕ)) where
    -- a file's line was written, or standard error tells why it has none
    pub record Sums (name : List ℕ) (old new : R) (out end : Counted W) (before after : Counted E) (status : ℕ) : Type 0 where
      pub outcome : Outcome
      pub becomes : Becomes name old new outcome
      pub sent : Sent contents out end (outcome_line name outcome)
      pub tells : Tells told name outcome before after
      pub status_is : status ≡ outcome_status outcome

    -- a beginning of its line was written, or memory was refused for the line of standard error
    abbrev pub CutsLine : List ℕ → R → R → Counted W → Counted W → Fault → Type 0
    CutsLine name old new out end fault = (digest : List ℕ) × HasDigest name old new digest × CutOff contents out end (sum_line digest name) fault

    abbrev pub CannotTell : List ℕ → R → R → Counted W → Counted W → Fault → Type 0
    CannotTell name old new out end fault = (stop : Stop) × HasNone name old new stop × (fault ≡ OutOfMemory) × (end ≡ out)

    abbrev pub Cuts : List ℕ → R → R → Counted W → Counted W → Counted E → Counted E → Fault → Type 0
    Cuts name old new out end before after fault = (CutsLine name old new out end fault ⊎ CannotTell name old new out end fault) × (after ≡ before)

    -- the lines of these files were written, and the status is the greatest
    pub record SumsSome (names : List (List ℕ)) (old new : R) (out end : Counted W) (before after : Counted E) (status : ℕ) : Type 0 where
      pub outcomes : List Outcome
      pub become : Become names old new outcomes
      pub sent : Sent contents out end (lines names outcomes)
      pub tells : TellAll told names outcomes before after
      pub status_is : status ≡ worst outcomes

    -- and the writer was flushed behind them
    pub record SumsAll (names : List (List ℕ)) (old new : R) (out end : Counted W) (before after : Counted E) (status : ℕ) : Type 0 where
      pub outcomes : List Outcome
      pub become : Become names old new outcomes
      pub printed : Printed contents out end (lines names outcomes)
      pub tells : TellAll told names outcomes before after
      pub status_is : status ≡ worst outcomes

    -- the writer failed behind a beginning of these lines, or memory was refused behind all of them
    abbrev pub Halts : Counted W → Counted W → List ℕ → Fault → Type 0
    Halts out end text WriteFault = Broken contents out end text
    Halts out end text OutOfMemory = Sent contents out end text
    Halts out end text _ = ⊥

    -- of so many files the lines were written, the last one's perhaps not whole
    pub record SumsCut (names : List (List ℕ)) (old : R) (out end : Counted W) (before after : Counted E) (fault : Fault) : Type 0 where
      pub count : ℕ
      pub outcomes : List Outcome
      pub next : R
      pub become : Become (take count names) old next outcomes
      pub halts : Halts out end (lines (take count names) outcomes) fault
      pub tells : TellAll told (take count names) outcomes before after
