use Rattle.std.proofs.Common.{rules}
use Rattle.std.specs.Prelude.{string_bytes}
use Rattle.yaml_spell.proofs.PieceLaws.{if_one}
use Rattle.yaml_show.specs.Shows.{written_in}
use Rattle.yaml_show.proofs.AlikeLaws.{when_none, shows_canonical}
use Rattle.yaml_show.proofs.ShownLaws.{admitted_shown}
use Rattle.yaml_show.proofs.shown.show_in.Goals as goal

pub returns-in_err-text-clause-accepts : goal.returns-in_err-text-clause-accepts
returns-in_err-text-clause-accepts c = λ f a m.
    let h = admitted_shown c.nothing_else_is_refused.ensures.meaning (written_in c.args.manner) c.args.bytes.now f c.in_err-text.field-0.0 a m c.in_err-text.ensures.refused in
    search (rules, h)

pub returns-in-None-clause-shown : goal.returns-in-None-clause-shown
returns-in-None-clause-shown c = if_one c.canonical.result c.canonical.ensures.text (λ text h. shows_canonical (written_in c.args.manner) c.args.bytes.now (string_bytes text) h (when_none c.in_ok-text.field-0 c.in-None.is c.in_ok-text.ensures.unlike))
