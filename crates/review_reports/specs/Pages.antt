-- What `faults` and `warn` find in files, and what is written of it as a whole.
use Rattle.std.specs.Prelude.{◌≡◌, ◌⊎◌, ◌==◌, ◌&&◌, ℕ, max, not, cond, List, [], ◌∷◌, ◌++◌, length, Option, Some, codes, string_bytes}
use Rattle.yaml_text.specs.Fault.{fault_name}
use Rattle.yaml_text.specs.declared.fault.Fault.{Fault}
use Rattle.yaml_text.specs.declared.fault.Fault.TheVariants.{TooLong}
use Rattle.yaml_text.specs.declared.counted.Counted.{Counted}
use Rattle.yaml_text.specs.Writers.{Printed, Broken}
use Rattle.yaml_canon.specs.Claims.{CanonicalRefuses}
use Rattle.yaml_canon.specs.FaultPlaces.{TellsPlace}
use Rattle.review_text.specs.declared.options.Page.{Page}
use Rattle.review_args.specs.declared.words.Warn.{Warn}
use Rattle.review_formats.specs.declared.finding.Finding.{Finding}
use Rattle.review_formats.specs.declared.finding.Level.TheVariants as levels
use Rattle.review_text.specs.Hidden.{visible}
use Rattle.review_text.specs.Shown.{front}
use Rattle.review_faults.specs.Spotted.{IsSpotted}
use Rattle.review_faults.specs.Warned.{ListsFirst}
use Rattle.review_faults.specs.declared.cause.Cause.{Cause}
use Rattle.review_faults.specs.declared.warn.Warning.{Warning}
use Rattle.review_files.specs.Named.{ReadsNamed, ReadsNot}
use Rattle.review_files.specs.Told.{IsAccepted}
use Rattle.review_reports.specs.Reports.{HasNoText}
use Rattle.review_reports.specs.Texts.{IsListText}
use Rattle.review_files.specs.Statuses.{unread_status}
use Rattle.review_files.specs.declared.unread.Unread.{Unread}
use Rattle.review_files.specs.declared.unread.Unread.TheVariants as unread
use Rattle.review_reports.specs.declared.reports.Kind.{Kind}
use Rattle.review_reports.specs.declared.reports.Kind.TheVariants.{Faults, Warnings}

-- ---- one file

-- it is this fault of a file of this name and these bytes, at its place
pub record IsFault (name bytes : List ℕ) (fault : Fault) (one : Finding) : Type 0 where
  pub file : string_bytes one.file ≡ name
  pub rule : one.rule.now ≡ fault_name fault
  pub level : one.level ≡ levels.Error
  pub place : IsSpotted bytes fault one.place

-- one fault is found
abbrev pub FindsFault : List ℕ → List ℕ → Fault → List Finding → Type 0
FindsFault name bytes fault list = (one : Finding) × (list ≡ one ∷ []) × IsFault name bytes fault one

-- it is this warning of a file of this name, with its rule, at its place, with 60 bytes at most of what is shown and what is said of it
pub record IsFoundWarning (name : List ℕ) (w : Warning) (one : Finding) : Type 0 where
  pub file : string_bytes one.file ≡ name
  pub rule : one.rule.now ≡ w.rule.now
  pub level : one.level ≡ levels.Warning
  pub place : one.place ≡ Some w.place
  pub message : string_bytes one.message ≡ visible (front 60 (string_bytes w.text)) ++ (codes ": " ++ string_bytes w.words)

-- these warnings are found, one by one
abbrev pub AreFoundWarnings : List ℕ → List Warning → List Finding → Type 0
AreFoundWarnings name [] list = list ≡ []
AreFoundWarnings name (w ∷ ws) list = (one : Finding) × (rest : List Finding) × IsFoundWarning name w one × AreFoundWarnings name ws rest × (list ≡ one ∷ rest)

-- In a file that is accepted the first of its warnings are found, as many as are asked for. With `--strict` the status is 1 exactly if there is one.
pub record FindsWarnings (w : Warn) (name bytes : List ℕ) (list : List Finding) (status : ℕ) : Type 0 where
  pub all : List (ℕ × Cause)
  pub warnings : List Warning
  pub first : ListsFirst bytes w.allowed.items all w.lines warnings
  pub found : AreFoundWarnings name warnings list
  pub answered : status ≡ cond (w.is_strict && not (length all == 0)) 1 0

abbrev pub FindsAccepted : Kind → List ℕ → List ℕ → List Finding → ℕ → Type 0
FindsAccepted Faults name bytes list status = (list ≡ []) × (status ≡ 0)
FindsAccepted (Warnings w) name bytes list status = FindsWarnings w.now name bytes list status

-- what is found in bytes: the fault with which `canonical` refuses them
abbrev pub FindsBytes : Kind → List ℕ → List ℕ → List Finding → ℕ → Type 0
FindsBytes kind name bytes list status =
    (IsAccepted bytes × FindsAccepted kind name bytes list status)
    ⊎ ((fault : Fault) × CanonicalRefuses bytes fault × TellsPlace bytes fault × FindsFault name bytes fault list × (status ≡ 2))

-- ---- what is written

module _ {W : Type 0} (contents : W → Option (List ℕ)) where
  -- What was found is written as text, and the status is that; or the output fails behind a beginning of it, or nothing is written because memory is refused.
  abbrev pub WritesPage : Kind → Page → List Finding → Counted W → Counted W → ℕ → ℕ → Type 0
  WritesPage kind page list out end found status =
      ((text : List ℕ) × IsListText kind page list text × Printed contents out end text × (status ≡ found))
      ⊎ (((text : List ℕ) × IsListText kind page list text × Broken contents out end text × (status ≡ max found 3))
      ⊎ ((end ≡ out) × (status ≡ max found 2)))

-- ---- a file

module _ {R : Type 0} (holds : List ℕ → Option (List ℕ)) (remaining : R → Option (List ℕ)) where
  -- in a file, which has more bytes than a text may have or is read
  abbrev pub HasFound : Kind → List ℕ → R → R → List Finding → ℕ → Type 0
  HasFound kind name old new list status =
      ((bytes : List ℕ) × ReadsNamed holds remaining name old new bytes × FindsBytes kind name bytes list status)
      ⊎ (ReadsNot holds remaining name old new (unread.Fault TooLong) × FindsFault name [] TooLong list × (status ≡ 2))

  -- or nothing, with the status of why it is not read or nothing is made of it
  abbrev pub FindsFile : Kind → List ℕ → R → R → List Finding → ℕ → Type 0
  FindsFile kind name old new list status =
      HasFound kind name old new list status
      ⊎ ((why : Unread) × HasNoText holds remaining name old new why × (list ≡ []) × (status ≡ unread_status why))

  -- ---- files in turn

  -- What is found in each, one behind the other. The status is the greatest of all: 0 exactly if each file is read and accepted, and none has a warning where that is asked.
  abbrev pub FindsFiles : Kind → List (List ℕ) → R → R → List Finding → ℕ → Type 0
  FindsFiles kind [] old new list status = (new ≡ old) × (list ≡ []) × (status ≡ 0)
  FindsFiles kind (name ∷ names) old new list status =
      (next : R) × (found : List Finding) × (more : List Finding) × (first : ℕ) × (rest : ℕ) × FindsFile kind name old next found first × FindsFiles kind names next new more rest × (list ≡ found ++ more) × (status ≡ max first rest)

  module _ {W : Type 0} (contents : W → Option (List ℕ)) where
    -- The files are looked at in turn and the page is written. Where memory for what was found is refused, nothing is written, and the status tells it.
    abbrev pub TellsPage : Kind → Page → List (List ℕ) → R → R → Counted W → Counted W → ℕ → Type 0
    TellsPage kind page names old new out end status =
        ((list : List Finding) × (found : ℕ) × FindsFiles kind names old new list found × WritesPage contents kind page list out end found status)
        ⊎ ((end ≡ out) × (status ≡ 2))
