-- What the program does, by its words.
use Rattle.std.specs.Prelude.{◌≡◌, ◌⊎◌, ℕ, Bool, true, false, List, Option, Some, None, ◌≤◌}
use Rattle.clap.specs.declared.error.kind.ErrorKind.{ErrorKind}
use Rattle.clap.specs.declared.error.kind.ErrorKind.TheVariants as kind
use Rattle.yaml_text.specs.CountedModel.{inner_of, faults_of}
use Rattle.yaml_text.specs.Writers.{Printed, Broken}
use Rattle.yaml_text.specs.declared.counted.Counted.{Counted}
use Rattle.yaml_text.specs.declared.fault.Fault.{Fault}
use Rattle.yaml_text.specs.declared.fault.Fault.TheVariants.{OutOfMemory, WriteFault}
use Rattle.review_patterns.specs.declared.pattern.Pattern.{Pattern}
use Rattle.review_args.specs.Words.{Asks, HasKeys, Refuses}
use Rattle.review_args.specs.declared.words.Asked.{Asked}
use Rattle.review_args.specs.declared.words.Asked.TheVariants as asks
use Rattle.review_text.specs.declared.options.Diff.{Diff}
use Rattle.review_text.specs.declared.options.Page.{Page}
use Rattle.review_files.specs.Lines.{TakesLine, bare_line}
use Rattle.review_files.specs.Statuses.{fault_status}
use Rattle.review_reports.specs.FolderPages.{FolderShows}
use Rattle.review_reports.specs.Printed.{FolderPrints}
use Rattle.review_reports.specs.declared.entry.Entry.{Entry}
use Rattle.review_command.specs.Runs.{Does}

-- ---- words that ask for no command

-- they ask for the help or for the version
abbrev pub is_help : ErrorKind → Bool
is_help kind.DisplayHelp = true
is_help kind.DisplayVersion = true
is_help _ = false

module _ {W E : Type 0} (contents : W → Option (List ℕ)) (told : E → Option (List ℕ)) where
  -- standard error takes the line of a fault of no file, and the status is its own
  abbrev pub TellsFault : Fault → E → ℕ → Type 0
  TellsFault fault err status = (status ≡ fault_status fault) × ((after : E) × TakesLine told err after (bare_line fault))

  -- A text is written on the output, and nothing else is printed. Or the output fails behind a beginning of it, which is told.
  pub record WritesHelp (out : W) (err : E) (status : ℕ) : Type 0 where
    pub text : List ℕ
    pub old : Counted W
    pub new : Counted W
    pub writer : inner_of old ≡ out
    pub no_write : faults_of old ≡ 0
    pub ends : (Printed contents old new text × (status ≡ 0)) ⊎ (Broken contents old new text × TellsFault WriteFault err status)

  -- standard error takes a text
  abbrev pub TellsWrong : E → ℕ → Type 0
  TellsWrong err status = (status ≡ 3) × ((text : List ℕ) × (after : E) × TakesLine told err after text)

  abbrev pub TellsWords : Bool → W → E → ℕ → Type 0
  TellsWords true out err status = WritesHelp out err status
  TellsWords false out err status = TellsWrong err status

  -- what is told where memory may be refused for the text
  abbrev pub TellsError : ErrorKind → W → E → ℕ → Type 0
  TellsError k out err status = TellsWords (is_help k) out err status ⊎ TellsFault OutOfMemory err status

-- ---- words

-- the words ask for something, with the keys of `diff --by` among them, and it is done
pub record WordsDone (does : Asked → ℕ → Type 0) (words : List (List ℕ)) (is_terminal : Bool) (status : ℕ) : Type 0 where
  pub keys : List (List ℕ)
  pub has_keys : HasKeys words keys
  pub asked : Asked
  pub asks : Asks words keys is_terminal asked
  pub done : does asked status

module _ {W E : Type 0} (contents : W → Option (List ℕ)) (told : E → Option (List ℕ)) where
  -- the words ask for nothing, and it is told why
  pub record WordsRefused (words : List (List ℕ)) (out : W) (err : E) (status : ℕ) : Type 0 where
    pub refusal : ErrorKind
    pub refused : Refuses words refusal
    pub tells : TellsError contents told refusal out err status

  -- What the words ask for is done. Or they ask for nothing, or memory is refused for reading them.
  abbrev pub CommandEnds : (Asked → ℕ → Type 0) → List (List ℕ) → Bool → W → E → ℕ → Type 0
  CommandEnds does words is_terminal out err status =
      WordsDone does words is_terminal status ⊎ (WordsRefused words out err status ⊎ TellsFault contents told OutOfMemory err status)

-- ---- files of which nothing is known

abbrev pub unknown : List ℕ → Option (List ℕ)
unknown name = None

module _ {W E : Type 0} (contents : W → Option (List ℕ)) (told : E → Option (List ℕ)) where
  -- the files of two folders are told of by some names, by some states of both writers
  pub record FoldersPrint (asked : Diff) (ignored : List Pattern) (out : W) (status : ℕ) : Type 0 where
    pub entries : List Entry
    pub old : Counted W
    pub new : Counted W
    pub before : E
    pub after : E
    pub writer : inner_of old ≡ out
    pub no_write : faults_of old ≡ 0
    pub prints : FolderPrints unknown contents told asked ignored entries old new before after status

  -- the same as a page
  pub record FoldersShow (asked : Diff) (ignored : List Pattern) (page : Page) (out : W) (status : ℕ) : Type 0 where
    pub entries : List Entry
    pub old : Counted W
    pub new : Counted W
    pub before : E
    pub writer : inner_of old ≡ out
    pub no_write : faults_of old ≡ 0
    pub shows : FolderShows unknown contents told asked ignored page entries old new before status

  -- Or the names are not read, or there is no memory, and the status is 2 or more.
  abbrev pub FoldersEnd : Diff → List Pattern → Option Page → W → ℕ → Type 0
  FoldersEnd asked ignored None out status = FoldersPrint asked ignored out status ⊎ (2 ≤ status)
  FoldersEnd asked ignored (Some page) out status = FoldersShow asked ignored page out status ⊎ (2 ≤ status)

module _ {R W E : Type 0} (remaining : R → Option (List ℕ)) (contents : W → Option (List ℕ)) (told : E → Option (List ℕ)) where
  -- two folders are compared, if `diff` is asked for and both names are those of folders
  abbrev pub FoldersDo : Asked → R → W → E → ℕ → Type 0
  FoldersDo (asks.Diff asked ignored included) input out err status = FoldersEnd contents told asked ignored.items None out status
  FoldersDo (asks.DiffPage page asked ignored included) input out err status = FoldersEnd contents told asked ignored.items (Some page) out status
  FoldersDo asked input out err status = Does unknown remaining contents told asked input out err status

  abbrev pub HostDoes : Bool → Asked → R → W → E → ℕ → Type 0
  HostDoes true asked input out err status = FoldersDo asked input out err status
  HostDoes false asked input out err status = Does unknown remaining contents told asked input out err status

  -- whether they are folders the system tells
  abbrev pub HostDoesOne : R → W → E → Asked → ℕ → Type 0
  HostDoesOne input out err asked status = (folders : Bool) × HostDoes folders asked input out err status
