-- What a command has after arguments or subcommands are added in turn.
use Rattle.std.proofs.Common.{◌≡◌, ◌∙◌, ◌||◌, Bool, true, List, [], ◌∷◌, map, codes, fold, refl, sym, ap, ap₂, subst}
use Rattle.clap.specs.Words.{AddsArg, AddsInTurn, AddsSubcommand, App, Rule, Shape, app_of, is_simple_and_free, new_app, with_rule, with_subcommand}
use Rattle.clap.specs.Simple.{is_simple}
use Rattle.clap.specs.declared.builder.arg.Arg.{Arg}
use Rattle.clap.specs.declared.builder.command.Command.{Command}
use Rattle.clap.proofs.OnLiterals.{clap_on_literals}
use Rattle.review_args.specs.Grammar.{AreChoices, Choices, IsLocal, IsProgram, arg_with_global, command_with_globals, own, program, set_up, shapes}

head_same : {X : Type 0} (x y : X) (xs ys : List X) → x ∷ xs ≡ y ∷ ys → x ≡ y
head_same x y xs ys e = cc

tail_same : {X : Type 0} (x y : X) (xs ys : List X) → x ∷ xs ≡ y ∷ ys → xs ≡ ys
tail_same x y xs ys e = cc

pub args_added : (old new : Command) (args : List Arg) (rules : List Rule) → map arg_with_global args ≡ map own rules → AddsInTurn AddsArg old args new
    → app_of new ≡ fold with_rule (app_of old) rules
args_added old new [] [] e h = ap app_of (sym h)
args_added old new [] (r ∷ rules) e h = absurd (cc)
args_added old new (a ∷ args) [] e h = absurd (cc)
args_added old new (a ∷ args) (r ∷ rules) e h =
    let first = head_same _ _ _ _ e in
    let rest = tail_same _ _ _ _ e in
    let one : app_of h.0 ≡ with_rule (app_of old) r = h.1.shape (ap (λ (p : Rule × Bool). p.1) first) ∙ ap (with_rule (app_of old)) (ap (λ (p : Rule × Bool). p.0) first) in
    args_added h.0 new args rules rest h.2 ∙ ap (λ (app : App). fold with_rule app rules) one

pub args_local : (old new : Command) (args : List Arg) (rules : List Rule) → map arg_with_global args ≡ map own rules → AddsInTurn AddsArg old args new
    → IsLocal old → IsLocal new
args_local old new [] [] e h own_args = subst IsLocal h own_args
args_local old new [] (r ∷ rules) e h own_args = absurd (cc)
args_local old new (a ∷ args) [] e h own_args = absurd (cc)
args_local old new (a ∷ args) (r ∷ rules) e h own_args =
    let first = head_same _ _ _ _ e in
    let rest = tail_same _ _ _ _ e in
    args_local h.0 new args rules rest h.2 (h.1.globals ∙ ap₂ (λ (x y : Bool). x || y) own_args (ap (λ (p : Rule × Bool). p.1) first))

pub subcommands_added : (old new : Command) (commands : List Command) (all : List Shape) → map command_with_globals commands ≡ map own all
    → AddsInTurn AddsSubcommand old commands new → app_of new ≡ fold with_subcommand (app_of old) all
subcommands_added old new [] [] e h = ap app_of (sym h)
subcommands_added old new [] (s ∷ all) e h = absurd (cc)
subcommands_added old new (c ∷ commands) [] e h = absurd (cc)
subcommands_added old new (c ∷ commands) (s ∷ all) e h =
    let first = head_same _ _ _ _ e in
    let rest = tail_same _ _ _ _ e in
    let one : app_of h.0 ≡ with_subcommand (app_of old) s = h.1.shape (ap (λ (p : Shape × Bool). p.1) first) ∙ ap (with_subcommand (app_of old)) (ap (λ (p : Shape × Bool). p.0) first) in
    subcommands_added h.0 new commands all rest h.2 ∙ ap (λ (app : App). fold with_subcommand app all) one

program_is_simple : (choices : Choices) → is_simple (program choices) ≡ true
unfolding clap_on_literals
program_is_simple choices = refl

program_is_free : (choices : Choices) → is_simple_and_free (program choices) ≡ true
unfolding clap_on_literals
program_is_free choices = refl

-- the grammar is one of which `clap` says what it makes of words
pub is_read : (app : App) → IsProgram app → is_simple app ≡ true
is_read app is = ap is_simple is.2 ∙ program_is_simple is.0

pub is_judged : (app : App) → IsProgram app → is_simple_and_free app ≡ true
is_judged app is = ap is_simple_and_free is.2 ∙ program_is_free is.0

-- the program's grammar is what is made of its commands
pub is_program : (choices : Choices) → AreChoices choices → (top new : Command) (commands : List Command) → map command_with_globals commands ≡ map own (shapes choices)
    → app_of top ≡ set_up (new_app (codes "yamlreview")) → AddsInTurn AddsSubcommand top commands new → IsProgram (app_of new)
is_program choices are top new commands e t h =
    (choices, are, subcommands_added top new commands (shapes choices) e h ∙ ap (λ (app : App). fold with_subcommand app (shapes choices)) t)
