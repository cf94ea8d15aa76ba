-- What `diff` tells of two files that are not compared.
use Rattle.std.specs.Prelude.{◌≡◌, ◌⊎◌, ◌≤◌, ℕ, Bool, List, Option, codes, string_bytes}
use Rattle.yaml_text.specs.declared.fault.Fault.{Fault}
use Rattle.yaml_text.specs.declared.fault.Fault.TheVariants.{OutOfMemory}
use Rattle.yaml_text.specs.declared.side.Side.{Side}
use Rattle.yaml_text.specs.declared.counted.Counted.{Counted}
use Rattle.yaml_command.specs.Printing.{PrintFails}
use Rattle.review_patterns.specs.declared.pattern.Pattern.{Pattern}
use Rattle.review_text.specs.declared.options.Diff.{Diff}
use Rattle.review_text.specs.declared.options.Page.{Page}
use Rattle.review_compare.specs.Compared.{DiffLines, DiffLists}
use Rattle.review_lines.specs.declared.listed.Listed.{Listed}
use Rattle.review_files.specs.Lines.{TakesLine, bare_line}
use Rattle.review_files.specs.Named.{AreNamed, IsAnswer, NotBothRead}
use Rattle.review_files.specs.Statuses.{fault_status}
use Rattle.review_files.specs.Told.{TellsBoth, TellsNotCompared}
use Rattle.review_files.specs.declared.rejected.Named.{Named}
use Rattle.review_merge.specs.Merges.{no_merge_status}
use Rattle.review_merge.specs.declared.merge.NoMerge.{NoMerge}
use Rattle.review_merge.specs.declared.merge.NoMerge.TheVariants as merge
use Rattle.review_command.specs.Diffs.{IsFilePage}
use Rattle.review_command.specs.declared.diff.NoDiff.{NoDiff}
use Rattle.review_command.specs.declared.diff.NoDiff.TheVariants as no

-- Both files, what reading each gave, and what is told of them. Either they are not both read, or they are read and not compared.
pub record TellsRejected (holds : List ℕ → Option (List ℕ)) (rest : Option (List ℕ)) (asked : Diff) (text : List ℕ) (status : ℕ) : Type 0 where
  pub left : Named
  pub right : Named
  pub left_name : left.name.now ≡ asked.left.now
  pub right_name : right.name.now ≡ asked.right.now
  pub left_is : IsAnswer holds rest asked.left.now left.answer.now
  pub right_is : IsAnswer holds rest asked.right.now right.answer.now
  pub tells :
      (NotBothRead left.answer.now right.answer.now × TellsBoth asked.form left right text status)
      ⊎ ((side : Side) × TellsNotCompared asked.form left right side text status)
  pub refused : 1 ≤ status

-- The standard input is named twice, or the files are rejected, or memory is refused for the text of that.
abbrev pub Refuses : (List ℕ → Option (List ℕ)) → Option (List ℕ) → Diff → NoDiff → Type 0
Refuses holds rest asked no.OneInput = (asked.left.now ≡ codes "-") × (asked.right.now ≡ codes "-")
Refuses holds rest asked (no.Rejected text status) = TellsRejected holds rest asked (string_bytes text) status
Refuses holds rest asked (no.Fault fault) = fault ≡ OutOfMemory

-- the output fails behind a beginning of the lines of the differences
pub record CutsLines {W : Type 0} (holds : List ℕ → Option (List ℕ)) (rest : Option (List ℕ)) (contents : W → Option (List ℕ)) (asked : Diff) (ignored : List Pattern) (old new : Counted W) (fault : Fault) : Type 0 where
  pub first : List ℕ
  pub second : List ℕ
  pub named : AreNamed holds rest asked.left.now asked.right.now first second
  pub none : Bool
  pub text : List ℕ
  pub lines : DiffLines first second asked ignored none text
  pub fails : PrintFails contents old new text fault

-- Why there is no answer: nothing is printed, or the output fails.
abbrev pub DiffRefuses : {W : Type 0} → (List ℕ → Option (List ℕ)) → Option (List ℕ) → (W → Option (List ℕ)) → Diff → List Pattern → Counted W → Counted W → NoDiff → Type 0
DiffRefuses holds rest contents asked ignored old new none =
    (Refuses holds rest asked none × (new ≡ old)) ⊎ ((fault : Fault) × (none ≡ no.Fault fault) × CutsLines holds rest contents asked ignored old new fault)

-- the output fails behind a beginning of the page with the differences
pub record CutsPage {W : Type 0} (holds : List ℕ → Option (List ℕ)) (rest : Option (List ℕ)) (contents : W → Option (List ℕ)) (asked : Diff) (page : Page) (ignored : List Pattern) (old new : Counted W) (fault : Fault) : Type 0 where
  pub first : List ℕ
  pub second : List ℕ
  pub named : AreNamed holds rest asked.left.now asked.right.now first second
  pub listed : Listed
  pub lists : DiffLists first second asked ignored listed
  pub text : List ℕ
  pub is : IsFilePage asked page first second listed text
  pub fails : PrintFails contents old new text fault

-- The same of a page. The fault is want of memory where the page is not made.
abbrev pub PageRefuses : {W : Type 0} → (List ℕ → Option (List ℕ)) → Option (List ℕ) → (W → Option (List ℕ)) → Diff → Page → List Pattern → Counted W → Counted W → NoDiff → Type 0
PageRefuses holds rest contents asked page ignored old new none =
    (Refuses holds rest asked none × (new ≡ old)) ⊎ ((fault : Fault) × (none ≡ no.Fault fault) × CutsPage holds rest contents asked page ignored old new fault)

-- the status of each
abbrev pub no_diff_status : NoDiff → ℕ
no_diff_status no.OneInput = 3
no_diff_status (no.Rejected text status) = status
no_diff_status (no.Fault fault) = fault_status fault

-- and its line
abbrev pub one_input_line : List ℕ
one_input_line = codes "yamlreview: usage: `-` is standard input, which is read once\n"

abbrev pub no_diff_line : NoDiff → List ℕ
no_diff_line no.OneInput = one_input_line
no_diff_line (no.Rejected text status) = string_bytes text
no_diff_line (no.Fault fault) = bare_line fault

-- standard error takes the line, and the status is its own
abbrev pub TellsNoDiff : {E : Type 0} → (E → Option (List ℕ)) → NoDiff → E → ℕ → Type 0
TellsNoDiff {E} told none err status = (status ≡ no_diff_status none) × ((after : E) × TakesLine told err after (no_diff_line none))

-- the same of a merge of which nothing is said
abbrev pub no_merge_line : NoMerge → List ℕ
no_merge_line merge.OneInput = one_input_line
no_merge_line (merge.Told text status) = string_bytes text
no_merge_line (merge.Fault fault) = bare_line fault

abbrev pub TellsNoMerge : {E : Type 0} → (E → Option (List ℕ)) → NoMerge → E → ℕ → Type 0
TellsNoMerge {E} told none err status = (status ≡ no_merge_status none) × ((after : E) × TakesLine told err after (no_merge_line none))
