-- What words ask for, from what `clap` finds in them: for each argument of a command a row with the values that it has.
use Rattle.std.specs.Prelude.{◌≡◌, ◌⊎◌, ℕ, ◌^◌, nat_lt, min, ◌&&◌, ◌||◌, ◌==◌, not, length, Bool, true, false, codes, List, [], ◌∷◌, Option, Some, None, is_some, option_map, option_and_then, unwrap_or, if◌then◌else◌}
use Rattle.std.specs.List.{list_all, list_any, Any}
use Rattle.std.specs.Str.{bytes_eq}
use Rattle.std.specs.Str.Parse.{digits_value, without_leading_plus}
use Rattle.std.specs.Borrow.{Bor}
use Rattle.clap.specs.Words.{App, IsAmong, Row, Text, all_of, fault_of, first_of, one_of, subcommand_of}
use Rattle.clap.specs.Walk.{is_empty, texts}
use Rattle.clap.specs.ValueTests.{is_numeral}
use Rattle.clap.specs.declared.error.kind.ErrorKind.{ErrorKind}
use Rattle.clap.specs.declared.error.kind.ErrorKind.TheVariants as kind
use Rattle.review_patterns.specs.Globs.{is_glob}
use Rattle.review_patterns.specs.Patterns.{IsPattern, steps_of}
use Rattle.review_patterns.specs.declared.pattern.Pattern.{Pattern}
use Rattle.review_args.specs.Grammar.{IsProgram}
use Rattle.review_args.specs.declared.words.Asked.{Asked}
use Rattle.review_args.specs.declared.words.Asked.TheVariants as asks
use Rattle.review_text.specs.declared.options.Diff.{Diff}
use Rattle.review_text.specs.declared.options.Form.{Form}
use Rattle.review_text.specs.declared.options.Form.TheVariants as forms
use Rattle.review_args.specs.declared.words.Format.{Format}
use Rattle.review_args.specs.declared.words.Format.TheVariants as formats
use Rattle.review_args.specs.declared.words.Merge.{Merge}
use Rattle.review_text.specs.declared.options.Page.{Page}
use Rattle.review_text.specs.declared.options.Page.TheVariants as pages
use Rattle.review_text.specs.declared.options.Paths.{Paths}
use Rattle.review_text.specs.declared.options.Paths.TheVariants as hows
use Rattle.review_args.specs.declared.words.Report.{Report}
use Rattle.review_args.specs.declared.words.Show.{Show}
use Rattle.review_args.specs.declared.words.Sum.{Sum}
use Rattle.review_args.specs.declared.words.Warn.{Warn}

-- ---- what was found for an argument

abbrev pub is_word : Text → Option Text → Bool
is_word word None = false
is_word word (Some text) = bytes_eq text word

-- the first value of the argument is this word
abbrev pub has : Text → Text → List Row → Bool
has name word rows = is_word word (first_of name rows)

-- the flag is given
abbrev pub is_on : Text → List Row → Bool
is_on name rows = has name (codes "true") rows

-- the argument has a value
abbrev pub is_there : Text → List Row → Bool
is_there name rows = is_some (first_of name rows)

-- its value, or `-`
abbrev pub file_of : Text → List Row → Text
file_of name rows = unwrap_or (first_of name rows) (codes "-")

-- the number that digits write, if 64 bits have it
abbrev pub number_of : Text → Option ℕ
number_of text =
    if is_numeral (without_leading_plus text) && nat_lt (digits_value 10 (without_leading_plus text)) (2 ^ 64)
    then Some (digits_value 10 (without_leading_plus text)) else None

abbrev pub number_in : Text → List Row → Option ℕ
number_in name rows = option_and_then number_of (one_of name rows)

-- all its values
abbrev pub texts_in : Text → List Row → List Text
texts_in name rows = unwrap_or (all_of name rows) []

-- the names of files, or `-` if there are none
abbrev pub or_input : List Text → List Text
or_input [] = codes "-" ∷ []
or_input (file ∷ files) = file ∷ files

abbrev pub files_in : List Row → List Text
files_in rows = or_input (texts_in (codes "FILE") rows)

-- the globs of the files of folders, or those of YAML and JSON
abbrev pub or_both_forms : List Text → List Text
or_both_forms [] = codes "*.yaml" ∷ codes "*.yml" ∷ codes "*.json" ∷ []
or_both_forms (glob ∷ globs) = glob ∷ globs

abbrev pub included_in : List Row → List Text
included_in rows = or_both_forms (texts_in (codes "include") rows)

-- no text of `--by` is empty
abbrev pub has_bytes : Text → Bool
has_bytes text = not (length text == 0)

abbrev pub has_keys : List Row → Bool
has_keys rows = list_all has_bytes (texts_in (codes "by") rows)

-- ---- what it means

-- `--format json`
abbrev pub form_in : List Row → Form
form_in rows = if has (codes "format") (codes "json") rows then forms.Json else forms.Line

-- the other forms but `line`
abbrev pub page_in : List Row → Option Page
page_in rows = if has (codes "format") (codes "html") rows then Some pages.Html
    else (if has (codes "format") (codes "markdown") rows then Some pages.Markdown
    else (if has (codes "format") (codes "sarif") rows then Some pages.Sarif
    else (if has (codes "format") (codes "github") rows then Some pages.Github
    else None)))

abbrev pub format_in : List Row → Format
format_in rows = if has (codes "format") (codes "json") rows then formats.Json
    else (if is_on (codes "keep-order") rows then formats.AsRead
    else (if is_on (codes "sharing") rows then formats.Sharing
    else formats.Yaml))

-- the order of the source is asked for, and JSON
abbrev pub keeps_json : List Row → Bool
keeps_json rows = is_on (codes "keep-order") rows && has (codes "format") (codes "json") rows

-- anchors and aliases are asked for, and JSON or the order of the source
abbrev pub shares_otherwise : List Row → Bool
shares_otherwise rows = is_on (codes "sharing") rows && (is_on (codes "keep-order") rows || has (codes "format") (codes "json") rows)

-- `--paths`, which is for lines of text
abbrev pub paths_in : List Row → Paths
paths_in rows = if not (has (codes "format") (codes "line") rows) then hows.Plain
    else (if has (codes "paths") (codes "jq") rows then hows.Jq
    else (if has (codes "paths") (codes "jsonpointer") rows then hows.JsonPointer
    else hows.Plain))

-- `--color`, of an output that is a terminal or not
abbrev pub color_in : Bool → List Row → Bool
color_in is_terminal rows = if has (codes "color") (codes "always") rows then true
    else (if has (codes "color") (codes "never") rows then false
    else is_terminal)

-- `--lines`, or so many
abbrev pub lines_or : ℕ → List Row → ℕ
lines_or most rows = unwrap_or (number_in (codes "lines") rows) most

-- the same, and none with `--quiet`
abbrev pub loud_lines_or : ℕ → List Row → ℕ
loud_lines_or most rows = if is_on (codes "quiet") rows then 0 else lines_or most rows

-- ---- what a command is asked

pub record AsksDiff (rows : List Row) (by : List Text) (is_terminal : Bool) (diff : Diff) : Type 0 where
  pub left : diff.left.now ≡ file_of (codes "A") rows
  pub right : diff.right.now ≡ file_of (codes "B") rows
  pub places : diff.places ≡ not (is_on (codes "no-places") rows)
  pub whole : diff.whole ≡ is_on (codes "whole") rows
  -- with `--stat` all are counted
  pub lines : diff.lines ≡ loud_lines_or (if is_on (codes "stat") rows then 1000000 else 1000) rows
  pub form : diff.form ≡ form_in rows
  pub context : diff.context ≡ min (unwrap_or (number_in (codes "unified") rows) 0) 1000
  pub color : diff.color ≡ color_in is_terminal rows
  pub stat : diff.stat ≡ is_on (codes "stat") rows
  pub by_position : diff.by_position ≡ is_on (codes "by-position") rows
  pub keys : texts diff.by.now ≡ by
  -- each form but JSON, without `--no-fold`
  pub folds : diff.folds ≡ (not (has (codes "format") (codes "json") rows) && not (is_on (codes "no-fold") rows))
  pub paths : diff.paths ≡ paths_in rows

-- these are the patterns of these texts
abbrev pub ArePatterns : List Text → List Pattern → Type 0
ArePatterns [] [] = Unit {0}
ArePatterns (text ∷ rest) (pattern ∷ patterns) = IsPattern text (steps_of pattern) × ArePatterns rest patterns
ArePatterns _ _ = ⊥

abbrev pub AsksIgnored : List Row → List Pattern → Type 0
AsksIgnored rows patterns = ArePatterns (texts_in (codes "ignore") rows) patterns

-- the globs of files, each of which is one
abbrev pub AsksIncluded : List Row → List (Bor Text) → Type 0
AsksIncluded rows globs = (texts globs ≡ included_in rows) × (list_all is_glob (texts globs) ≡ true)

pub record AsksReport (rows : List Row) (report : Report) : Type 0 where
  pub files : texts report.files.items ≡ files_in rows
  pub form : report.form ≡ form_in rows

pub record AsksWarn (rows : List Row) (warn : Warn) : Type 0 where
  pub lines : warn.lines ≡ lines_or 1000 rows
  pub is_strict : warn.is_strict ≡ is_on (codes "strict") rows
  pub allowed : texts warn.allowed.items ≡ texts_in (codes "allow") rows

-- more than one of `--check`, `--strict` and `--textconv`
abbrev pub has_two_modes : List Row → Bool
has_two_modes rows = (is_on (codes "strict") rows && is_on (codes "textconv") rows)
    || (is_on (codes "check") rows && (is_on (codes "strict") rows || is_on (codes "textconv") rows))

pub record AsksShow (rows : List Row) (show : Show) : Type 0 where
  pub files : texts show.files.items ≡ files_in rows
  pub format : show.format ≡ format_in rows
  pub textconv : show.textconv ≡ is_on (codes "textconv") rows
  pub is_check : show.is_check ≡ is_on (codes "check") rows
  pub is_strict : show.is_strict ≡ is_on (codes "strict") rows
  pub one : has_two_modes rows ≡ false
  pub ordered : keeps_json rows ≡ false
  pub shared : shares_otherwise rows ≡ false

-- more than one of FILE, `--files-from` and `--check`
abbrev pub are_several : List Row → Bool
are_several rows = (is_there (codes "files-from") rows && is_there (codes "FILE") rows)
    || (is_there (codes "check") rows && (is_there (codes "FILE") rows || is_there (codes "files-from") rows))

-- how a list is checked is said, and none is
abbrev pub lacks_list : List Row → Bool
lacks_list rows = not (is_there (codes "check") rows)
    && (is_on (codes "ignore-missing") rows || (is_on (codes "quiet") rows || (is_on (codes "status") rows || is_on (codes "strict") rows)))

pub record AsksSum (rows : List Row) (sum : Sum) : Type 0 where
  pub files : texts sum.files.items ≡ files_in rows
  pub files_from : option_map (λ s. s.now) sum.files_from ≡ first_of (codes "files-from") rows
  pub check : option_map (λ s. s.now) sum.check ≡ first_of (codes "check") rows
  pub is_quiet : sum.is_quiet ≡ is_on (codes "quiet") rows
  pub is_silent : sum.is_silent ≡ is_on (codes "status") rows
  pub is_strict : sum.is_strict ≡ is_on (codes "strict") rows
  pub skips_missing : sum.skips_missing ≡ is_on (codes "ignore-missing") rows
  pub one : are_several rows ≡ false
  pub has_list : lacks_list rows ≡ false

pub record AsksMerge (rows : List Row) (is_terminal : Bool) (merge : Merge) : Type 0 where
  pub base : merge.base.now ≡ file_of (codes "BASE") rows
  pub ours : merge.ours.now ≡ file_of (codes "OURS") rows
  pub theirs : merge.theirs.now ≡ file_of (codes "THEIRS") rows
  pub found : option_map (λ s. s.now) merge.result ≡ first_of (codes "RESULT") rows
  pub lines : merge.lines ≡ loud_lines_or 1000 rows
  pub places : merge.places ≡ not (is_on (codes "no-places") rows)
  pub whole : merge.whole ≡ is_on (codes "whole") rows
  pub color : merge.color ≡ color_in is_terminal rows

-- the command of this name is asked for this, with the keys of `--by`
abbrev pub AsksIn : Text → List Row → List Text → Bool → Asked → Type 0
AsksIn name rows by is_terminal (asks.Diff diff ignored included) = (name ≡ codes "diff") × (page_in rows ≡ None) × (has_keys rows ≡ true) × AsksDiff rows by is_terminal diff × AsksIgnored rows ignored.items × AsksIncluded rows included.items
AsksIn name rows by is_terminal (asks.DiffPage page diff ignored included) = (name ≡ codes "diff") × (page_in rows ≡ Some page) × (diff.stat ≡ false) × (has_keys rows ≡ true) × AsksDiff rows by is_terminal diff × AsksIgnored rows ignored.items × AsksIncluded rows included.items
AsksIn name rows by is_terminal (asks.Faults report) = (name ≡ codes "faults") × (page_in rows ≡ None) × AsksReport rows report
AsksIn name rows by is_terminal (asks.FaultsPage page report) = (name ≡ codes "faults") × (page_in rows ≡ Some page) × AsksReport rows report
AsksIn name rows by is_terminal (asks.Warn report warn) = (name ≡ codes "warn") × (page_in rows ≡ None) × AsksReport rows report × AsksWarn rows warn
AsksIn name rows by is_terminal (asks.WarnPage page report warn) = (name ≡ codes "warn") × (page_in rows ≡ Some page) × AsksReport rows report × AsksWarn rows warn
AsksIn name rows by is_terminal (asks.Show show) = (name ≡ codes "show") × AsksShow rows show
AsksIn name rows by is_terminal (asks.Sum sum) = (name ≡ codes "sum") × AsksSum rows sum
AsksIn name rows by is_terminal (asks.Merge merge) = (name ≡ codes "merge3") × AsksMerge rows is_terminal merge
AsksIn name rows by is_terminal (asks.Git words is_color) = ⊥

-- ---- what words ask for

-- the words that git passes: all behind a first `--`, if they ask for no help
abbrev pub passed : List Text → Option (List Text)
passed [] = None
passed (first ∷ rest) = if bytes_eq first (codes "--help") || bytes_eq first (codes "-h") then None
    else (if bytes_eq first (codes "--") then (if is_empty rest then None else Some rest)
    else Some (first ∷ rest))

abbrev pub git_words : List Text → Option (List Text)
git_words [] = None
git_words (command ∷ rest) = if bytes_eq command (codes "git") then passed rest else None

abbrev pub AsksGit : List Text → Bool → Asked → Type 0
AsksGit words is_terminal (asks.Git passed_on is_color) = (git_words words ≡ Some (texts passed_on.items)) × (is_color ≡ is_terminal)
AsksGit words is_terminal _ = ⊥

-- `clap` accepts the words, as those of the command of this name, and finds these rows
pub record Finds (words : List Text) (name : Text) (rows : List Row) : Type 0 where
  pub app : App
  pub is_program : IsProgram app
  pub accepted : fault_of app words ≡ []
  pub found : subcommand_of app words ≡ Some (name, rows)

-- The words ask for this.
abbrev pub Asks : List Text → List Text → Bool → Asked → Type 0
Asks words by is_terminal asked = AsksGit words is_terminal asked
    ⊎ ((git_words words ≡ None) × ((name : Text) × (rows : List Row) × Finds words name rows × AsksIn name rows by is_terminal asked))

-- the texts of `diff --by`
abbrev pub keys_in : Option (Text × List Row) → List Text
keys_in None = []
keys_in (Some command) = if bytes_eq command.0 (codes "diff") then texts_in (codes "by") command.1 else []

-- these are they, if `clap` accepts the words
abbrev pub HasKeys : List Text → List Text → Type 0
HasKeys words keys = (app : App) × IsProgram app × (fault_of app words ≡ [] → keys ≡ keys_in (subcommand_of app words))

-- ---- why they ask for nothing

-- a text that is no pattern
abbrev pub HasNoPattern : Text → Type 0
HasNoPattern text = (steps : List (List ℕ)) → IsPattern text steps → ⊥

-- a text of `--ignore` is no pattern
abbrev pub RefusesPatterns : List Row → ErrorKind → Type 0
RefusesPatterns rows k = (k ≡ kind.OutOfMemory) ⊎ ((k ≡ kind.ValueValidation) × Any HasNoPattern (texts_in (codes "ignore") rows))

-- a text of `--include` is no glob
abbrev pub RefusesGlobs : List Row → ErrorKind → Type 0
RefusesGlobs rows k = (k ≡ kind.OutOfMemory) ⊎ ((k ≡ kind.ValueValidation) × (list_all is_glob (included_in rows) ≡ false))

-- one of these, or a text of `--by` is empty, or numbers are asked for on a page
abbrev pub RefusesDiff : List Row → ErrorKind → Type 0
RefusesDiff rows k = RefusesPatterns rows k
    ⊎ (RefusesGlobs rows k
    ⊎ (((k ≡ kind.ValueValidation) × (has_keys rows ≡ false))
    ⊎ ((k ≡ kind.ArgumentConflict) × (is_some (page_in rows) ≡ true) × (is_on (codes "stat") rows ≡ true))))

abbrev pub RefusesShow : List Row → ErrorKind → Type 0
RefusesShow rows k = (k ≡ kind.OutOfMemory) ⊎ ((k ≡ kind.ArgumentConflict) × ((has_two_modes rows ≡ true) ⊎ ((keeps_json rows ≡ true) ⊎ (shares_otherwise rows ≡ true))))

abbrev pub RefusesSum : List Row → ErrorKind → Type 0
RefusesSum rows k = (k ≡ kind.OutOfMemory) ⊎ ((k ≡ kind.ArgumentConflict) × ((are_several rows ≡ true) ⊎ (lacks_list rows ≡ true)))

-- the commands but `git`
abbrev pub is_command : Text → Bool
is_command name = list_any (λ command. bytes_eq name command)
    (codes "diff" ∷ codes "faults" ∷ codes "warn" ∷ codes "show" ∷ codes "sum" ∷ codes "merge3" ∷ [])

abbrev pub RefusesIn : Text → List Row → ErrorKind → Type 0
RefusesIn name rows k = (k ≡ kind.OutOfMemory)
    ⊎ (((name ≡ codes "diff") × RefusesDiff rows k)
    ⊎ (((name ≡ codes "show") × RefusesShow rows k)
    ⊎ (((name ≡ codes "sum") × RefusesSum rows k)
    ⊎ ((k ≡ kind.MissingSubcommand) × (is_command name ≡ false)))))

abbrev pub RefusesCall : Option (Text × List Row) → ErrorKind → Type 0
RefusesCall None k = (k ≡ kind.OutOfMemory) ⊎ (k ≡ kind.MissingSubcommand)
RefusesCall (Some command) k = RefusesIn command.0 command.1 k

abbrev pub RefusesBy : App → List Text → ErrorKind → Type 0
RefusesBy app words k = IsAmong k (fault_of app words) ⊎ ((fault_of app words ≡ []) × RefusesCall (subcommand_of app words) k)

-- Memory is refused; or `clap` refuses the words; or it accepts them, and what they say can't be asked.
abbrev pub Refuses : List Text → ErrorKind → Type 0
Refuses words k = (k ≡ kind.OutOfMemory) ⊎ ((git_words words ≡ None) × ((app : App) × IsProgram app × RefusesBy app words k))
