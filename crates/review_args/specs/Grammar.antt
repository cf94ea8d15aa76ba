-- The commands and their arguments, as plain values of `clap`. A rule has the name of an argument, its long and its short name, how
-- many values a use has, what a use does, which values are accepted, which value is taken if there is no use, and whether there has to be one.
use Rattle.std.specs.Prelude.{◌≡◌, ℕ, Bool, true, false, codes, List, [], ◌∷◌, Some, fold}
use Rattle.std.specs.Borrow.{Bor}
use Rattle.clap.specs.Words.{App, Rule, Shape, Text, new_app, new_rule, rule_of, shape_of, with_rule, with_subcommand}
use Rattle.clap.specs.Lexer.{usize_max}
use Rattle.clap.specs.Walk.{texts}
use Rattle.clap.specs.declared.builder.action.ArgAction.TheVariants.{Append, SetTrue}
use Rattle.clap.specs.declared.builder.arg.Arg.{Arg}
use Rattle.clap.specs.declared.builder.command.Command.{Command}
use Rattle.clap.specs.declared.builder.command.Command.TheViews.{out-Command}
use Rattle.clap.specs.declared.builder.value_parser.ValueParser.TheVariants.{Names, Unsigned}
use Rattle.review_args.specs.declared.arguments.Choices.{Choices as CodeChoices}

-- ---- words of which an argument takes one, where they are in memory

pub record Choices : Type 0 where
  pub colors : Bor (List (Bor Text))
  pub formats : Bor (List (Bor Text))
  pub forms : Bor (List (Bor Text))
  pub spellings : Bor (List (Bor Text))

pub record AreChoices (choices : Choices) : Type 0 where
  pub colors : texts choices.colors.now ≡ codes "auto" ∷ codes "always" ∷ codes "never" ∷ []
  pub formats : texts choices.formats.now ≡ codes "yaml" ∷ codes "json" ∷ []
  pub forms : texts choices.forms.now ≡ codes "line" ∷ codes "json" ∷ codes "html" ∷ codes "markdown" ∷ codes "sarif" ∷ codes "github" ∷ []
  pub spellings : texts choices.spellings.now ≡ codes "plain" ∷ codes "jq" ∷ codes "jsonpointer" ∷ []

-- ---- kinds of arguments

-- a file, which has to be given or may be left out
abbrev pub file : Text → Bool → Rule
file name required = record (new_rule name) { required = required }

-- from so many words on
abbrev pub at_least : ℕ → Text → Rule
at_least least name = record (new_rule name) {
  action = Some Append;
  range = Some (record { start_inclusive = least; end_inclusive = usize_max });
}

-- `--name`
abbrev pub flag : Text → Rule
flag name = record (new_rule name) { long = Some name; action = Some SetTrue }

-- `--name` or `-c`
abbrev pub letter : Text → ℕ → Rule
letter name short = record (flag name) { short = Some short }

-- `--name N`, of which N is at most so many
abbrev pub number : Text → ℕ → Rule
number name most = record (new_rule name) { long = Some name; value_names = 1; parser = Some (Unsigned 0 most) }

-- `--name WORD` of some words, and the one that is taken if there is no use
abbrev pub one_of : Text → Bor (List (Bor Text)) → Text → Rule
one_of name words taken = record (new_rule name) { long = Some name; value_names = 1; parser = Some (Names words); defaults = taken ∷ [] }

-- `--name TEXT`, of which each use adds a text
abbrev pub repeated : Text → Rule
repeated name = record (new_rule name) { long = Some name; value_names = 1; action = Some Append }

-- `--name LIST`
abbrev pub list : Text → Rule
list name = record (new_rule name) { long = Some name; value_names = 1 }

-- ---- arguments

abbrev pub files : Rule
files = at_least 0 (codes "FILE")

abbrev pub lines : Rule
lines = record (number (codes "lines") 1000000) { defaults = codes "1000" ∷ [] }

-- `-U N` too
abbrev pub unified : Rule
unified = record (number (codes "unified") 1000) { short = Some 85; defaults = codes "0" ∷ [] }

-- all words behind the first one, whatever they begin with
abbrev pub words_of : Rule
words_of = record (at_least 1 (codes "WORD")) { required = true; trailing_var_arg = true }

abbrev pub color : Choices → Rule
color choices = one_of (codes "color") choices.colors (codes "auto")

abbrev pub form : Choices → Rule
form choices = one_of (codes "format") choices.forms (codes "line")

abbrev pub format : Choices → Rule
format choices = one_of (codes "format") choices.formats (codes "yaml")

abbrev pub spelling : Choices → Rule
spelling choices = one_of (codes "paths") choices.spellings (codes "plain")

-- ---- commands

abbrev pub command : Text → List Rule → App
command name rules = fold with_rule (new_app name) rules

abbrev pub diff : Choices → App
diff choices = command (codes "diff")
    (file (codes "A") true
    ∷ file (codes "B") true
    ∷ flag (codes "no-places")
    ∷ flag (codes "whole")
    ∷ number (codes "lines") 1000000
    ∷ unified
    ∷ letter (codes "quiet") 113
    ∷ flag (codes "stat")
    ∷ flag (codes "by-position")
    ∷ repeated (codes "by")
    ∷ flag (codes "no-fold")
    ∷ color choices
    ∷ repeated (codes "ignore")
    ∷ repeated (codes "include")
    ∷ spelling choices
    ∷ form choices
    ∷ [])

abbrev pub faults : Choices → App
faults choices = command (codes "faults") (files ∷ form choices ∷ [])

abbrev pub warn : Choices → App
warn choices = command (codes "warn") (files ∷ flag (codes "strict") ∷ repeated (codes "allow") ∷ lines ∷ form choices ∷ [])

abbrev pub show : Choices → App
show choices = command (codes "show") (files ∷ flag (codes "check") ∷ format choices ∷ flag (codes "keep-order") ∷ flag (codes "sharing") ∷ flag (codes "strict") ∷ flag (codes "textconv") ∷ [])

abbrev pub sum : App
sum = command (codes "sum")
    (files
    ∷ list (codes "files-from")
    ∷ list (codes "check")
    ∷ flag (codes "ignore-missing")
    ∷ flag (codes "quiet")
    ∷ flag (codes "status")
    ∷ flag (codes "strict")
    ∷ [])

abbrev pub merge3 : Choices → App
merge3 choices = command (codes "merge3")
    (file (codes "BASE") true
    ∷ file (codes "OURS") true
    ∷ file (codes "THEIRS") true
    ∷ file (codes "RESULT") false
    ∷ flag (codes "no-places")
    ∷ flag (codes "whole")
    ∷ lines
    ∷ letter (codes "quiet") 113
    ∷ color choices
    ∷ [])

abbrev pub git : App
git = command (codes "git") (words_of ∷ [])

abbrev pub shapes : Choices → List Shape
shapes choices = (diff choices).top ∷ (faults choices).top ∷ (warn choices).top ∷ (show choices).top ∷ sum.top ∷ (merge3 choices).top ∷ git.top ∷ []

-- the settings of the program: it has a version, and wants one of the commands
abbrev pub set_up : App → App
set_up app = record app { top = record app.top { has_version = true; no_binary_name = true; subcommand_required = true } }

abbrev pub program : Choices → App
program choices = fold with_subcommand (set_up (new_app (codes "yamlreview"))) (shapes choices)

-- The program's grammar. Which memory has the words of choices is not said.
abbrev pub IsProgram : App → Type 0
IsProgram app = (choices : Choices) × AreChoices choices × (app ≡ program choices)

-- ---- what the code has of it

abbrev pub choices_of : CodeChoices → Choices
choices_of choices = record { colors = choices.colors; formats = choices.formats; forms = choices.forms; spellings = choices.spellings }

-- no argument of the command is one of its subcommands too
abbrev pub IsLocal : Command → Type 0
IsLocal c = (out-Command c).has_globals ≡ false

-- an argument and a command, and whether subcommands have its arguments too
abbrev pub arg_with_global : Arg → Rule × Bool
arg_with_global a = (rule_of a, a.global)

abbrev pub command_with_globals : Command → Shape × Bool
command_with_globals c = (shape_of c, (out-Command c).has_globals)

abbrev pub own : {X : Type 0} → X → X × Bool
own x = (x, false)
