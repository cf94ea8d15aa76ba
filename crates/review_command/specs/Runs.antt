-- What the commands do, of readers and writers that were given away.
use Rattle.std.specs.Prelude.{◌≡◌, ◌⊎◌, ◌≤◌, ◌==◌, ℕ, Bool, true, false, List, map, Option, Some, None}
use Rattle.std.specs.List.{list_any}
use Rattle.yaml_text.specs.declared.counted.Counted.{Counted}
use Rattle.yaml_text.specs.CountedModel.{inner_of, faults_of}
use Rattle.review_args.specs.declared.words.Asked.{Asked}
use Rattle.review_args.specs.declared.words.Asked.TheVariants as asks
use Rattle.review_text.specs.declared.options.Diff.{Diff}
use Rattle.review_text.specs.declared.options.Page.{Page}
use Rattle.review_args.specs.declared.words.Report.{Report}
use Rattle.review_patterns.specs.declared.pattern.Pattern.{Pattern}
use Rattle.review_command.specs.Diffs.{DiffTells, DiffShows}
use Rattle.review_command.specs.Gits.{GitEnds}
use Rattle.review_command.specs.Rejections.{DiffRefuses, PageRefuses, TellsNoDiff, TellsNoMerge}
use Rattle.review_command.specs.declared.diff.NoDiff.{NoDiff}
use Rattle.review_args.specs.declared.words.Merge.{Merge}
use Rattle.review_args.specs.declared.words.Sum.{Sum}
use Rattle.review_merge.specs.Merges.{MergeTells}
use Rattle.review_merge.specs.Refusals.{MergeRefuses}
use Rattle.review_merge.specs.declared.merge.Names.{Names}
use Rattle.review_merge.specs.declared.merge.NoMerge.{NoMerge}
use Rattle.review_merge.specs.declared.print.Print.{Print}
use Rattle.review_args.specs.declared.words.Warn.{Warn}
use Rattle.yaml_sum.specs.Asks.{SumTells}
use Rattle.yaml_sum.specs.declared.asked.Asked.{Asked as SumAsked}
use Rattle.yaml_sum.specs.declared.asked.Asked.TheVariants.{Files, FilesFrom, Check}
use Rattle.yaml_sum.specs.declared.asked.Rules.{Rules}
use Rattle.review_args.specs.declared.words.Show.{Show}
use Rattle.review_reports.specs.Pages.{TellsPage}
use Rattle.review_reports.specs.Reports.{TellsFiles}
use Rattle.review_reports.specs.declared.reports.Kind.{Kind}
use Rattle.review_reports.specs.declared.reports.Kind.TheVariants.{Faults, Warnings}
use Rattle.review_git.specs.ShownFiles.{ShowsFiles}

-- how a list is checked
pub record AsksRules (asked : Sum) (rules : Rules) : Type 0 where
  pub is_quiet : rules.is_quiet ≡ asked.is_quiet
  pub is_silent : rules.is_silent ≡ asked.is_silent
  pub is_strict : rules.is_strict ≡ asked.is_strict
  pub skips_missing : rules.skips_missing ≡ asked.skips_missing

-- what is asked of sums: a list is checked, the files of a list are summed, or those that are named
abbrev pub AsksSum : Sum → SumAsked → Type 0
AsksSum asked (Check list rules) = (asked.check ≡ Some list) × AsksRules asked rules
AsksSum asked (FilesFrom list) = (asked.check ≡ None) × (asked.files_from ≡ Some list)
AsksSum asked (Files words) = (asked.check ≡ None) × (asked.files_from ≡ None) × (words.now ≡ asked.files.items)

-- the name of the list has a NUL, which stands for a byte that is not UTF-8
abbrev pub is_unnamed : SumAsked → Bool
is_unnamed (Check list rules) = list_any (λ byte. byte == 0) list.now
is_unnamed (FilesFrom list) = list_any (λ byte. byte == 0) list.now
is_unnamed (Files words) = false

-- which warnings are asked for
abbrev pub AsksWarnings : Warn → Kind → Type 0
AsksWarnings warn Faults = ⊥
AsksWarnings warn (Warnings w) = w.now ≡ warn

-- these files are to be merged
pub record AsksMerge (asked : Merge) (names : Names) : Type 0 where
  pub base : names.base.now ≡ asked.base.now
  pub ours : names.ours.now ≡ asked.ours.now
  pub theirs : names.theirs.now ≡ asked.theirs.now
  pub result : names.result ≡ asked.result

-- so many lines are printed of a merge, with this in each of them
pub record AsksPrint (asked : Merge) (print : Print) : Type 0 where
  pub lines : print.lines ≡ asked.lines
  pub places : print.places ≡ asked.places
  pub whole : print.whole ≡ asked.whole
  pub color : print.color ≡ asked.color

module _ {R W E : Type 0} (holds : List ℕ → Option (List ℕ)) (remaining : R → Option (List ℕ)) (contents : W → Option (List ℕ)) (told : E → Option (List ℕ)) where
  -- what is told of files, by some state of the reader and of the writer, no call of which had failed
  pub record ReportsTell (kind : Kind) (asked : Report) (input : R) (out : W) (status : ℕ) : Type 0 where
    pub end : R
    pub old : Counted W
    pub new : Counted W
    pub writer : inner_of old ≡ out
    pub no_write : faults_of old ≡ 0
    pub tells : TellsFiles holds remaining contents kind asked.form (map (λ s. s.now) asked.files.items) input end old new status

  -- the same of a page
  pub record PagesTell (kind : Kind) (page : Page) (asked : Report) (input : R) (out : W) (status : ℕ) : Type 0 where
    pub end : R
    pub old : Counted W
    pub new : Counted W
    pub writer : inner_of old ≡ out
    pub no_write : faults_of old ≡ 0
    pub tells : TellsPage holds remaining contents kind page (map (λ s. s.now) asked.files.items) input end old new status

  -- what is shown of files, by some state of the reader and of both writers
  pub record ShowRuns (asked : Show) (input : R) (out : W) (err : E) (status : ℕ) : Type 0 where
    pub end : R
    pub old : Counted W
    pub new : Counted W
    pub after : E
    pub writer : inner_of old ≡ out
    pub no_write : faults_of old ≡ 0
    pub shows : ShowsFiles holds remaining contents told asked (map (λ s. s.now) asked.files.items) input end old new err after status

  -- sums are made or checked, or the list's name is not UTF-8
  abbrev pub SumRuns : SumAsked → R → W → E → ℕ → Type 0
  SumRuns asked input out err status = SumTells holds remaining contents told asked input out err status ⊎ ((is_unnamed asked ≡ true) × (status ≡ 3))

  -- two files are compared, or it is told why not, which the status tells too, and nothing else is printed
  abbrev pub DiffEnds : Diff → List Pattern → R → Counted W → Counted W → E → ℕ → Type 0
  DiffEnds asked ignored input old new err status =
      DiffTells holds (remaining input) contents asked ignored old new status
      ⊎ ((none : NoDiff) × DiffRefuses holds (remaining input) contents asked ignored old new none × TellsNoDiff told none err status)

  pub record DiffRuns (asked : Diff) (ignored : List Pattern) (input : R) (out : W) (err : E) (status : ℕ) : Type 0 where
    pub old : Counted W
    pub new : Counted W
    pub writer : inner_of old ≡ out
    pub no_write : faults_of old ≡ 0
    pub ends : DiffEnds asked ignored input old new err status

  -- the same of a page
  abbrev pub PageEnds : Diff → Page → List Pattern → R → Counted W → Counted W → E → ℕ → Type 0
  PageEnds asked page ignored input old new err status =
      DiffShows holds (remaining input) contents asked page ignored old new status
      ⊎ ((none : NoDiff) × PageRefuses holds (remaining input) contents asked page ignored old new none × TellsNoDiff told none err status)

  pub record PageRuns (asked : Diff) (page : Page) (ignored : List Pattern) (input : R) (out : W) (err : E) (status : ℕ) : Type 0 where
    pub old : Counted W
    pub new : Counted W
    pub writer : inner_of old ≡ out
    pub no_write : faults_of old ≡ 0
    pub ends : PageEnds asked page ignored input old new err status

  -- what git asks for is written
  pub record GitRuns (words : List (List ℕ)) (is_color : Bool) (out : W) (status : ℕ) : Type 0 where
    pub old : Counted W
    pub new : Counted W
    pub writer : inner_of old ≡ out
    pub no_write : faults_of old ≡ 0
    pub ends : GitEnds holds contents words is_color old new status

  -- it is told why nothing is said of a merge, which the status tells too
  abbrev pub MergeNone : Names → R → R → Counted W → Counted W → E → ℕ → Type 0
  MergeNone names input end old new err status =
      (none : NoMerge) × MergeRefuses holds remaining contents names input end old new none × TellsNoMerge told none err status × (2 ≤ status)

  -- It is said whether two changes can be merged, or whether a file is the merge. Else the status is 2 or more.
  pub record MergeRuns (asked : Merge) (input : R) (out : W) (err : E) (status : ℕ) : Type 0 where
    pub names : Names
    pub asks : AsksMerge asked names
    pub print : Print
    pub prints : AsksPrint asked print
    pub end : R
    pub old : Counted W
    pub new : Counted W
    pub writer : inner_of old ≡ out
    pub no_write : faults_of old ≡ 0
    pub ends : MergeTells holds remaining contents names print input end old new status ⊎ MergeNone names input end old new err status

  -- What the commands do.
  abbrev pub Does : Asked → R → W → E → ℕ → Type 0
  Does (asks.Diff asked ignored included) input out err status = DiffRuns asked ignored.items input out err status
  Does (asks.DiffPage page asked ignored included) input out err status = PageRuns asked page ignored.items input out err status
  Does (asks.Faults asked) input out err status = ReportsTell Faults asked input out status
  Does (asks.Warn asked warn) input out err status = (kind : Kind) × AsksWarnings warn kind × ReportsTell kind asked input out status
  Does (asks.FaultsPage page asked) input out err status = PagesTell Faults page asked input out status
  Does (asks.WarnPage page asked warn) input out err status = (kind : Kind) × AsksWarnings warn kind × PagesTell kind page asked input out status
  Does (asks.Show asked) input out err status = ShowRuns asked input out err status
  Does (asks.Git words is_color) input out err status = GitRuns (map (λ s. s.now) words.items) is_color out status
  Does (asks.Sum asked) input out err status = (is : SumAsked) × AsksSum asked is × SumRuns is input out err status
  Does (asks.Merge asked) input out err status = MergeRuns asked input out err status
