-- What `faults` and `warn` tell of files.
use Rattle.std.specs.Prelude.{◌≡◌, ◌⊎◌, ◌==◌, ◌&&◌, ℕ, max, not, nat_le, cond, List, [], ◌∷◌, length, Option}
use Rattle.yaml_text.specs.declared.fault.Fault.{Fault}
use Rattle.yaml_text.specs.declared.fault.Fault.TheVariants.{TooLong, OutOfMemory, WriteFault}
use Rattle.yaml_text.specs.declared.counted.Counted.{Counted}
use Rattle.yaml_text.specs.Writers.{Printed, Broken}
use Rattle.review_text.specs.declared.options.Form.{Form}
use Rattle.review_args.specs.declared.words.Warn.{Warn}
use Rattle.review_faults.specs.FaultLines.{TellsFault}
use Rattle.review_faults.specs.Warned.{ListsFirst, warnings_text}
use Rattle.review_faults.specs.declared.cause.Cause.{Cause}
use Rattle.review_faults.specs.declared.warn.Warning.{Warning}
use Rattle.review_files.specs.Named.{ReadsNamed, ReadsNot}
use Rattle.review_files.specs.Statuses.{unread_status}
use Rattle.review_files.specs.Told.{IsAccepted, TellsRefusal}
use Rattle.review_files.specs.declared.unread.Unread.{Unread}
use Rattle.review_files.specs.declared.unread.Unread.TheVariants as unread
use Rattle.review_reports.specs.declared.reports.Kind.{Kind}
use Rattle.review_reports.specs.declared.reports.Kind.TheVariants.{Faults, Warnings}

-- ---- the bytes of a file

-- room for so many warnings, and for one at least
abbrev pub room_for : ℕ → ℕ
room_for lines = cond (lines == 0) 1 lines

-- Of an accepted file `warn` prints the first of its warnings, a line for each and one more if these are not all, or nothing where no line is asked for. With `--strict` the status is 1 exactly if there is one.
pub record AddsWarnings (w : Warn) (form : Form) (name bytes text : List ℕ) (status : ℕ) : Type 0 where
  pub all : List (ℕ × Cause)
  pub list : List Warning
  pub first : ListsFirst bytes w.allowed.items all w.lines list
  pub printed : text ≡ cond (w.lines == 0) [] (warnings_text form name list (nat_le (length all) w.lines))
  pub answered : status ≡ cond (w.is_strict && not (length all == 0)) 1 0

-- `faults` prints nothing of it, with the status 0
abbrev pub Adds : Kind → Form → List ℕ → List ℕ → List ℕ → ℕ → Type 0
Adds Faults form name bytes text status = (text ≡ []) × (status ≡ 0)
Adds (Warnings w) form name bytes text status = AddsWarnings w.now form name bytes text status

-- The status is 2 for bytes that are not accepted.
abbrev pub TellsBytes : Kind → Form → List ℕ → List ℕ → List ℕ → ℕ → Type 0
TellsBytes kind form name bytes text status = (IsAccepted bytes × Adds kind form name bytes text status) ⊎ (TellsRefusal form name bytes text × (status ≡ 2))

module _ {R : Type 0} (holds : List ℕ → Option (List ℕ)) (remaining : R → Option (List ℕ)) where
  -- ---- reading one

  -- what there is to print of a file, which has more bytes than a text may have or is read
  abbrev pub HasText : Kind → Form → List ℕ → R → R → List ℕ → ℕ → Type 0
  HasText kind form name old new text status =
      ((bytes : List ℕ) × ReadsNamed holds remaining name old new bytes × TellsBytes kind form name bytes text status)
      ⊎ (ReadsNot holds remaining name old new (unread.Fault TooLong) × TellsFault form name [] TooLong text × (status ≡ 2))

  -- why there is nothing: it is not read, or memory is refused
  abbrev pub HasNoText : List ℕ → R → R → Unread → Type 0
  HasNoText name old new why = ReadsNot holds remaining name old new why ⊎ (why ≡ unread.Fault OutOfMemory)

  module _ {W : Type 0} (contents : W → Option (List ℕ)) where
    -- ---- writing it

    -- the text was written, or nothing, with the status of why there is none
    abbrev pub TellsFile : Kind → Form → List ℕ → R → R → Counted W → Counted W → ℕ → Type 0
    TellsFile kind form name old new out end status =
        ((text : List ℕ) × HasText kind form name old new text status × Printed contents out end text)
        ⊎ ((why : Unread) × HasNoText name old new why × (end ≡ out) × (status ≡ unread_status why))

    -- the output fails behind a beginning of the text
    pub record CutsFile (kind : Kind) (form : Form) (name : List ℕ) (old new : R) (out end : Counted W) (fault : Fault) : Type 0 where
      pub text : List ℕ
      pub status : ℕ
      pub has : HasText kind form name old new text status
      pub broke : Broken contents out end text
      pub is : fault ≡ WriteFault

    -- The same of files in turn. The status is the greatest of all, or 3 where the output fails. So it is 0 exactly if each file is read and accepted, and with `--strict` has no warning.
    abbrev pub TellsFiles : Kind → Form → List (List ℕ) → R → R → Counted W → Counted W → ℕ → Type 0
    TellsFiles kind form [] old new out end status = (new ≡ old) × (end ≡ out) × (status ≡ 0)
    TellsFiles kind form (name ∷ names) old new out end status =
        ((next : R) × (middle : Counted W) × (first : ℕ) × (rest : ℕ) × TellsFile kind form name old next out middle first × TellsFiles kind form names next new middle end rest × (status ≡ max first rest))
        ⊎ (CutsFile kind form name old new out end WriteFault × (status ≡ 3))
