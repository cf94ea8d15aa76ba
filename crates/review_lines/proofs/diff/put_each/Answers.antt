use Rattle.std.proofs.Common.{◌++◌, ◌∙◌, ap, arith}
use Rattle.std.specs.String.{string_bytes}
use Rattle.review_lines.specs.Lines.{line_text}
use Rattle.review_lines.proofs.CompareLaws.{lines_next, lines_all}
use Rattle.review_lines.proofs.diff.put_each.Goals as goal

pub loop-line-preserved : goal.loop-line-preserved
loop-line-preserved c =
    let f = c.args.asked.now in
    lines_next f c.args.lines.now c.loop-line.line-index c.line-item.result _ _ _ (omega arith) c.loop-line.invariant (c.in_ok-put.ensures.ok ∙ ap (λ z. string_bytes c.loop-line.text ++ line_text f z) c.line-item.is)

pub returns : goal.returns
returns c = record { ok = (lines_all c.args.asked.now c.args.lines.now c.loop-line.line-index _ _ (omega arith) c.loop-line.invariant) }
