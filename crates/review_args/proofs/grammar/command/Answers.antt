use Rattle.std.proofs.Common.{◌≡◌, ◌∙◌, fold, ap, refl}
use Rattle.std.proofs.lemmas.Result.{IfOk-weaker}
use Rattle.clap.specs.Words.{App, app_of, with_rule}
use Rattle.review_args.proofs.Adding.{args_added, args_local}
use Rattle.review_args.proofs.grammar.command.Goals as goal

pub returns-clause-app : goal.returns-clause-app
returns-clause-app c =
    let same : app_of c.after_help.result ≡ app_of c.new.result = rw (c.after_help.ensures, c.about.ensures) refl in
    IfOk-weaker c.args-2.result _ _ (λ r h rules are. args_added _ r _ rules are h ∙ ap (λ (a : App). fold with_rule a rules) (same ∙ c.new.ensures.app)) c.args-2.ensures

pub returns-clause-local : goal.returns-clause-local
returns-clause-local c =
    IfOk-weaker c.args-2.result _ _ (λ r h rules are. args_local _ r _ rules are h (rw (c.after_help.ensures, c.about.ensures) c.new.ensures.local)) c.args-2.ensures
