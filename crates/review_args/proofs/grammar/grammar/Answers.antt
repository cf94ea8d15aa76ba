use Rattle.std.proofs.Common.{◌≡◌, ◌∙◌, ap, refl}
use Rattle.std.proofs.lemmas.Result.{IfOk-weaker}
use Rattle.clap.specs.Words.{app_of}
use Rattle.review_args.specs.Grammar.{choices_of, set_up}
use Rattle.review_args.proofs.Adding.{is_program}
use Rattle.review_args.proofs.grammar.grammar.Goals as goal

pub returns : goal.returns
returns c =
    let top_is : app_of c.subcommand_required.result ≡ set_up (app_of c.new.result) =
    rw (c.subcommand_required.ensures, c.no_binary_name.ensures, c.in_ok-bin_name.ensures.0, c.about.ensures, c.version.ensures) refl in
    IfOk-weaker c.subcommands.result _ _
    (λ r h. is_program (choices_of c.all_choices-choices.result) c.all_choices-choices.ensures c.subcommand_required.result r c.in_ok-commands.commands.items c.in_ok-commands.ensures (top_is ∙ ap set_up c.new.ensures.app) h)
    c.subcommands.ensures
