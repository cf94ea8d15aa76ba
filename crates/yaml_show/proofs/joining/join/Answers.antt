use Rattle.std.proofs.Common.{◌++◌, ◌∙◌, ap, arith}
use Rattle.std.specs.String.{string_bytes}
use Rattle.yaml_show.specs.Lines.{line_after}
use Rattle.yaml_show.proofs.JoinLaws.{flat_next, flat_all, flat_mapped}
use Rattle.yaml_show.proofs.joining.join.Goals as goal

pub loop-line-preserved : goal.loop-line-preserved
loop-line-preserved c =
    let is = c.as_str.ensures.value ∙ ap string_bytes c.line-item.is in
    flat_next (λ line. line_after c.args.before.now (string_bytes line)) c.args.lines.now c.loop-line.line-index c.line-item.result _ _ _ (omega arith) c.loop-line.invariant (c.in_ok-put_line.ensures.ok ∙ ap (λ z. string_bytes c.loop-line.text ++ line_after c.args.before.now z) is)

pub returns-clause-ok : goal.returns-clause-ok
returns-clause-ok c = flat_all (λ line. line_after c.args.before.now (string_bytes line)) c.args.lines.now c.loop-line.line-index _ _ (omega arith) c.loop-line.invariant ∙ flat_mapped (line_after c.args.before.now) string_bytes c.args.lines.now
