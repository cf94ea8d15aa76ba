use Rattle.std.proofs.Common.{sym, subst}
use Rattle.yaml_definitions.specs.model.Limits.{text_limit}
use Rattle.yaml_text.specs.Gathering.{Gathers}
use Rattle.yaml_command.proofs.FileLaws.{if_refused}
use Rattle.yaml_command.proofs.EventLaws.{events_failed}
use Rattle.yaml_command.proofs.events.events.Goals as goal

pub returns-clause-err : goal.returns-clause-err
returns-clause-err g c =
    let limited = subst (λ n. Gathers g.R.Read.remaining c.args.input.now c.gather.new.input n c.in_ok-bytes.bytes.items) c.text_limit.ensures c.in_ok-bytes.ensures.ok in
    let all = subst (Gathers g.R.Read.remaining c.args.input.now c.gather.new.input text_limit) (sym c.as_slice.ensures.value) limited in
    if_refused c.print_text.result c.print_text.ensures.err (λ fault h. events_failed g.W.Write.contents g.R.Read.remaining _ c.args.input.now c.gather.new.input c.args.out.now c.print_text.new.out fault all h)
