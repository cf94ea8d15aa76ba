-- What `diff` of two folders prints of each file.
use Rattle.std.specs.Prelude.{◌≡◌, ◌⊎◌, ◌==◌, ◌&&◌, ℕ, not, nat_lt, max, cond, Bool, List, [], ◌∷◌, ◌++◌, Option, Some, codes}
use Rattle.yaml_text.specs.declared.fault.Fault.{Fault}
use Rattle.yaml_text.specs.declared.fault.Fault.TheVariants.{OutOfMemory}
use Rattle.yaml_text.specs.declared.counted.Counted.{Counted}
use Rattle.yaml_text.specs.Writers.{Printed}
use Rattle.yaml_canon.specs.Comparing.{Compares}
use Rattle.yaml_command.specs.Printing.{PrintFails}
use Rattle.yaml_command.specs.Shelves.{IsOf}
use Rattle.review_patterns.specs.declared.pattern.Pattern.{Pattern}
use Rattle.review_text.specs.declared.options.Diff.{Diff}
use Rattle.review_text.specs.declared.options.Form.{Form}
use Rattle.review_text.specs.declared.options.Form.TheVariants as form
use Rattle.review_text.specs.Objects.{text_data, object_line}
use Rattle.review_text.specs.Terminal.{terminal}
use Rattle.review_compare.specs.Compared.{DiffLines}
use Rattle.review_files.specs.Lines.{TakesLine, bare_line}
use Rattle.review_files.specs.Statuses.{fault_status}
use Rattle.review_reports.specs.Folders.{IsPath, AreEqual, AreRejected, NewTold}
use Rattle.review_reports.specs.declared.entry.Entry.{Entry}
use Rattle.review_reports.specs.declared.entry.Has.{Has}
use Rattle.review_reports.specs.declared.entry.Has.TheVariants.{Left, Both, Right}

-- ---- texts

-- whether lines are printed, and not the status alone or numbers
abbrev pub has_lines : Diff → Bool
has_lines asked = nat_lt 0 asked.lines && not asked.stat

-- an object of JSON of this kind, of a file
abbrev pub file_object : List ℕ → List ℕ → List ℕ
file_object kind name = object_line ((codes "kind", text_data (Some kind)) ∷ ((codes "file", text_data (Some name)) ∷ []))

-- the name of a file, before what is printed of it
abbrev pub name_line : List ℕ → List ℕ
name_line name = codes "diff " ++ (terminal name ++ codes "\n")

abbrev pub name_text : Form → List ℕ → List ℕ
name_text form.Line name = name_line name
name_text form.Json name = file_object (codes "file") name

-- that one folder alone has a file: these words behind its name, or before it where no lines are printed
abbrev pub alone_line : Bool → List ℕ → List ℕ → List ℕ
alone_line listed words name = cond listed (name_line name ++ (words ++ codes "\n")) (words ++ (codes " " ++ (terminal name ++ codes "\n")))

abbrev pub alone_form : Form → Bool → List ℕ → List ℕ → List ℕ
alone_form form.Line listed words name = alone_line listed words name
alone_form form.Json listed words name = file_object words name

abbrev pub alone_text : Diff → List ℕ → List ℕ → List ℕ
alone_text asked words name = cond (asked.lines == 0) [] (alone_form asked.form (has_lines asked) words name)

-- the name of a file that both have, where lines are printed
abbrev pub head_text : Diff → List ℕ → List ℕ
head_text asked name = cond (has_lines asked) (name_text asked.form name) []

-- the lines of its differences behind it, and nothing if no difference is left
abbrev pub lines_text : Diff → List ℕ → Bool → List ℕ → List ℕ
lines_text asked name none lines = cond none [] (head_text asked name ++ lines)

-- ---- questions

-- What is asked of two folders, asked of two files that are called by this name.
pub record AsksFiles (asked : Diff) (name : List ℕ) (question : Diff) : Type 0 where
  pub left : question.left.now ≡ name
  pub right : question.right.now ≡ name
  pub places : question.places ≡ asked.places
  pub whole : question.whole ≡ asked.whole
  pub lines : question.lines ≡ asked.lines
  pub form : question.form ≡ asked.form
  pub context : question.context ≡ asked.context
  pub color : question.color ≡ asked.color
  pub stat : question.stat ≡ asked.stat
  pub by_position : question.by_position ≡ asked.by_position
  pub by : question.by.now ≡ asked.by.now
  pub folds : question.folds ≡ asked.folds
  pub paths : question.paths ≡ asked.paths

-- ---- one file

module _ (holds : List ℕ → Option (List ℕ)) where
  -- Two files have other bytes and are accepted. The lines of their differences are printed after the name. The status is 0 if no difference is left, and else 1; without patterns it is 0 if their streams are the same, and else 1.
  pub record LinesCompared (asked : Diff) (ignored : List Pattern) (name left right out : List ℕ) (status : ℕ) : Type 0 where
    pub first : List ℕ
    pub second : List ℕ
    pub one : IsOf (holds left) first
    pub other : IsOf (holds right) second
    pub differ : first ≡ second → ⊥
    pub none : Bool
    pub compares : ignored ≡ [] → Compares first second none
    pub question : Diff
    pub asks : AsksFiles asked name question
    pub lines : List ℕ
    pub are : DiffLines first second question ignored none lines
    pub printed : out ≡ lines_text asked name none lines
    pub told : status ≡ cond none 0 1

  -- what is printed and told of a file that both folders have
  abbrev pub BothTold : Diff → List Pattern → List ℕ → List ℕ → List ℕ → ℕ → Type 0
  BothTold asked ignored name out err status =
      (left : List ℕ) × (right : List ℕ) × IsPath asked.left.now name left × IsPath asked.right.now name right
      × ((AreEqual holds left right status × (out ≡ []) × (err ≡ []))
      ⊎ ((LinesCompared asked ignored name left right out status × (err ≡ [])) ⊎ (AreRejected holds asked.form left right err status × (out ≡ []))))

  -- the output of a file, what is told of it, and its status
  abbrev pub HasTold : Has → Diff → List Pattern → List ℕ → List ℕ → List ℕ → ℕ → Type 0
  HasTold Left asked ignored name out err status = (out ≡ alone_text asked (codes "deleted file") name) × (err ≡ []) × (status ≡ 1)
  HasTold Both asked ignored name out err status = BothTold asked ignored name out err status
  HasTold Right asked ignored name out err status = (out ≡ alone_text asked (codes "new file") name) × NewTold holds asked name err status

  abbrev pub EntryTold : Diff → List Pattern → Entry → List ℕ → List ℕ → ℕ → Type 0
  EntryTold asked ignored entry out err status = HasTold entry.has asked ignored entry.name.now out err status

-- ---- files in turn

module _ {W E : Type 0} (holds : List ℕ → Option (List ℕ)) (contents : W → Option (List ℕ)) (told : E → Option (List ℕ)) where
  -- the output takes what is printed of a file, and standard error what is told of it
  abbrev pub PrintsEntry : Diff → List Pattern → Entry → Counted W → Counted W → E → E → ℕ → Type 0
  PrintsEntry asked ignored entry old new before after status =
      (out : List ℕ) × (err : List ℕ) × EntryTold holds asked ignored entry out err status × TakesLine told before after err × Printed contents old new out

  -- the output fails, or nothing is printed and told of it because memory is refused
  abbrev pub CutsEntry : Diff → List Pattern → Entry → Counted W → Counted W → E → E → Fault → Type 0
  CutsEntry asked ignored entry old new before after fault =
      ((out : List ℕ) × (err : List ℕ) × (status : ℕ) × EntryTold holds asked ignored entry out err status × TakesLine told before after err × PrintFails contents old new out fault)
      ⊎ ((fault ≡ OutOfMemory) × (new ≡ old) × (after ≡ before))

  -- The files are told of in the order of the names, and the status is the greatest of all. No file follows one at which the output fails, which is told.
  abbrev pub FolderPrints : Diff → List Pattern → List Entry → Counted W → Counted W → E → E → ℕ → Type 0
  FolderPrints asked ignored [] old new before after status = (new ≡ old) × (after ≡ before) × (status ≡ 0)
  FolderPrints asked ignored (entry ∷ entries) old new before after status =
      ((middle : Counted W) × (between : E) × (first : ℕ) × (rest : ℕ) × PrintsEntry asked ignored entry old middle before between first × FolderPrints asked ignored entries middle new between after rest × (status ≡ max first rest))
      ⊎ ((between : E) × (fault : Fault) × CutsEntry asked ignored entry old new before between fault × TakesLine told between after (bare_line fault) × (status ≡ fault_status fault))
