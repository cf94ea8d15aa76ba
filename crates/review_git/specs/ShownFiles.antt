-- What `show` does with files.
use Rattle.std.specs.Prelude.{◌≡◌, ◌⊎◌, ℕ, Bool, true, false, not, ◌&&◌, ◌==◌, max, nat_le, length, cond, bytes_eq, List, [], ◌∷◌, ◌++◌, Option, codes}
use Rattle.yaml_text.specs.declared.fault.Fault.{Fault}
use Rattle.yaml_text.specs.declared.fault.Fault.TheVariants.{OutOfMemory}
use Rattle.yaml_text.specs.declared.counted.Counted.{Counted}
use Rattle.yaml_text.specs.Writers.{Printed}
use Rattle.yaml_command.specs.Printing.{PrintFails}
use Rattle.yaml_show.specs.Lines.{LinesOf}
use Rattle.yaml_show.specs.Refused.{ShowRefuses, AsReadRefuses, SharingRefuses, JsonRefuses}
use Rattle.yaml_show.specs.Shows.{Shows, ShowsAsRead, ShowsSharing}
use Rattle.yaml_show.specs.declared.unshown.Unshown.{Unshown}
use Rattle.yaml_show.specs.declared.unshown.Unshown.TheVariants.{Rejected}
use Rattle.review_text.specs.declared.options.Form.TheVariants.{Line}
use Rattle.review_args.specs.declared.words.Format.{Format}
use Rattle.review_args.specs.declared.words.Format.TheVariants.{Yaml, AsRead, Sharing, Json}
use Rattle.review_args.specs.declared.words.Show.{Show}
use Rattle.review_text.specs.Terminal.{terminal}
use Rattle.review_faults.specs.Warned.{ListsFirst, warnings_text}
use Rattle.review_faults.specs.declared.cause.Cause.{Cause}
use Rattle.review_faults.specs.declared.warn.Warning.{Warning}
use Rattle.review_files.specs.Lines.{TakesLine, bare_line}
use Rattle.review_files.specs.Named.{ReadsNamed, ReadsNot}
use Rattle.review_files.specs.Statuses.{fault_status}
use Rattle.review_files.specs.Told.{TellsUnread}
use Rattle.review_files.specs.declared.unread.Unread.{Unread}
use Rattle.review_git.specs.Unshown.{PutsUnshown}

-- ---- the bytes of a file

-- what is shown of them
abbrev pub IsText : Format → List ℕ → List ℕ → Type 0
IsText Yaml bytes text = Shows bytes text
IsText AsRead bytes text = ShowsAsRead bytes text
IsText Sharing bytes text = ShowsSharing bytes text
IsText Json bytes text = LinesOf bytes text

-- why nothing is
abbrev pub HasNone : Format → List ℕ → Unshown → Type 0
HasNone Yaml bytes (Rejected fault) = ShowRefuses bytes fault
HasNone Yaml bytes _ = ⊥
HasNone AsRead bytes (Rejected fault) = AsReadRefuses bytes fault
HasNone AsRead bytes _ = ⊥
HasNone Sharing bytes (Rejected fault) = SharingRefuses bytes fault
HasNone Sharing bytes _ = ⊥
HasNone Json bytes why = JsonRefuses bytes why

-- What is printed of a file that is shown. `--check` prints the name of a file that is another text, and nothing of one that is the same.
abbrev pub shown_output : Bool → List ℕ → List ℕ → List ℕ → List ℕ
shown_output is_check name bytes text = cond is_check (cond (bytes_eq bytes text) [] (terminal name ++ codes "\n")) text

-- With `--check` the status of such a file is 1.
abbrev pub shown_status : Bool → List ℕ → List ℕ → ℕ
shown_status is_check bytes text = cond (is_check && not (bytes_eq bytes text)) 1 0

-- Warnings of a file are told, unless it is compared or shown to git.
abbrev pub reports_warnings : Show → Bool
reports_warnings asked = not asked.is_check && not asked.textconv

-- The text is what `warn` prints of a file, with 1,000 lines at most. There is a warning, or none.
pub record Warns (name bytes text : List ℕ) (has_one : Bool) : Type 0 where
  pub all : List (ℕ × Cause)
  pub list : List Warning
  pub first : ListsFirst bytes [] all 1000 list
  pub printed : text ≡ warnings_text Line name list (nat_le (length all) 1000)
  pub one : has_one ≡ not (length all == 0)

-- ---- standard error

module _ {E : Type 0} (told : E → Option (List ℕ)) where
  -- that there is no memory for the line, with the status 2
  abbrev pub TellsBare : E → E → ℕ → Type 0
  TellsBare before after status = TakesLine told before after (bare_line OutOfMemory) × (status ≡ 2)

  -- The warnings of a file that is shown, if they are told. There is a warning, or none.
  abbrev pub TellsWarnings : Show → List ℕ → List ℕ → E → E → Bool → Type 0
  TellsWarnings asked name bytes before after has_one =
      ((reports_warnings asked ≡ true) × ((text : List ℕ) × Warns name bytes text has_one × TakesLine told before after text))
      ⊎ ((reports_warnings asked ≡ false) × (has_one ≡ false) × (after ≡ before))

  -- Why a file is not shown, with the status 2; or why that is not told.
  abbrev pub TellsUnshown : List ℕ → List ℕ → Unshown → E → E → ℕ → Type 0
  TellsUnshown name bytes why before after status =
      ((line : List ℕ) × PutsUnshown name bytes why [] line × TakesLine told before after line × (status ≡ 2))
      ⊎ TellsBare before after status

  -- the same of one that is not read
  abbrev pub TellsNotRead : List ℕ → Unread → E → E → ℕ → Type 0
  TellsNotRead name why before after status =
      ((line : List ℕ) × TellsUnread Line name why line status × TakesLine told before after line)
      ⊎ TellsBare before after status

-- ---- one file

module _ {W : Type 0} (contents : W → Option (List ℕ)) where
  -- With `--textconv` a file that is not shown is printed as it is, with the status 0. Else nothing is.
  abbrev pub PrintsSource : Bool → List ℕ → ℕ → Counted W → Counted W → ℕ → Type 0
  PrintsSource textconv bytes status out end answer =
      ((textconv ≡ true) × Printed contents out end bytes × (answer ≡ 0))
      ⊎ ((textconv ≡ false) × (end ≡ out) × (answer ≡ status))

  -- The output fails, or there is no memory for the line of `--check`.
  abbrev pub CutsText : Bool → List ℕ → Counted W → Counted W → Fault → Type 0
  CutsText is_check text out end fault = PrintFails contents out end text fault ⊎ ((is_check ≡ true) × (end ≡ out))

module _ {W E : Type 0} (contents : W → Option (List ℕ)) (told : E → Option (List ℕ)) where
  -- What becomes of a file that may be shown as this text. Its warnings are told, and the text is printed. With `--strict` nothing is printed if there is a warning, and the status is 1. If memory for the warnings is refused, that is told, and nothing is printed.
  abbrev pub ShowsText : Show → List ℕ → List ℕ → List ℕ → Counted W → Counted W → E → E → ℕ → Type 0
  ShowsText asked name bytes text out end before after status =
      ((has_one : Bool) × TellsWarnings told asked name bytes before after has_one
      × (((has_one && asked.is_strict ≡ false) × Printed contents out end (shown_output asked.is_check name bytes text) × (status ≡ shown_status asked.is_check bytes text))
      ⊎ ((has_one && asked.is_strict ≡ true) × (end ≡ out) × (status ≡ 1))))
      ⊎ (TellsBare told before after status × (end ≡ out))

  -- the warnings are told, and the output fails
  abbrev pub CutsShown : Show → List ℕ → List ℕ → List ℕ → Counted W → Counted W → E → E → Fault → Type 0
  CutsShown asked name bytes text out end before after fault =
      (has_one : Bool) × TellsWarnings told asked name bytes before after has_one × CutsText contents asked.is_check (shown_output asked.is_check name bytes text) out end fault

  -- the file is shown, or it is told that there is no text
  abbrev pub ShowsBytes : Show → List ℕ → List ℕ → Counted W → Counted W → E → E → ℕ → Type 0
  ShowsBytes asked name bytes out end before after status =
      ((text : List ℕ) × IsText asked.format bytes text × ShowsText asked name bytes text out end before after status)
      ⊎ ((why : Unshown) × (first : ℕ) × HasNone asked.format bytes why × TellsUnshown told name bytes why before after first × PrintsSource contents asked.textconv bytes first out end status)

  -- or the output fails
  abbrev pub CutsBytes : Show → List ℕ → List ℕ → Counted W → Counted W → E → E → Fault → Type 0
  CutsBytes asked name bytes out end before after fault =
      ((text : List ℕ) × IsText asked.format bytes text × CutsShown asked name bytes text out end before after fault)
      ⊎ ((why : Unshown) × (first : ℕ) × HasNone asked.format bytes why × TellsUnshown told name bytes why before after first × (asked.textconv ≡ true) × PrintFails contents out end bytes fault)

module _ {R W E : Type 0} (holds : List ℕ → Option (List ℕ)) (remaining : R → Option (List ℕ)) (contents : W → Option (List ℕ)) (told : E → Option (List ℕ)) where
  -- the same of a file by its name, which may not be read
  abbrev pub ShowsFile : Show → List ℕ → R → R → Counted W → Counted W → E → E → ℕ → Type 0
  ShowsFile asked name old new out end before after status =
      ((bytes : List ℕ) × ReadsNamed holds remaining name old new bytes × ShowsBytes contents told asked name bytes out end before after status)
      ⊎ ((why : Unread) × ReadsNot holds remaining name old new why × TellsNotRead told name why before after status × (end ≡ out))

  abbrev pub CutsFile : Show → List ℕ → R → R → Counted W → Counted W → E → E → Fault → Type 0
  CutsFile asked name old new out end before after fault = (bytes : List ℕ) × ReadsNamed holds remaining name old new bytes × CutsBytes contents told asked name bytes out end before after fault

  -- ---- files in turn

  -- The status is the greatest of all. No file follows one at which the output fails, which is told.
  abbrev pub ShowsFiles : Show → List (List ℕ) → R → R → Counted W → Counted W → E → E → ℕ → Type 0
  ShowsFiles asked [] old new out end before after status = (new ≡ old) × (end ≡ out) × (after ≡ before) × (status ≡ 0)
  ShowsFiles asked (name ∷ names) old new out end before after status =
      ((next : R) × (middle : Counted W) × (between : E) × (first : ℕ) × (rest : ℕ) × ShowsFile asked name old next out middle before between first × ShowsFiles asked names next new middle end between after rest × (status ≡ max first rest))
      ⊎ ((between : E) × (fault : Fault) × CutsFile asked name old new out end before between fault × TakesLine told between after (bare_line fault) × (status ≡ fault_status fault))
