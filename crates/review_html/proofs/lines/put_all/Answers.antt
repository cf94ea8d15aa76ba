use Rattle.std.proofs.Common.{◌+◌, map, refl, arith}
use Rattle.std.specs.List.{enumerate_from}
use Rattle.std.specs.String.{string_bytes}
use Rattle.review_html.specs.Lines.{ShowsLine}
use Rattle.review_html.proofs.TextLaws.{on_start, on_step, on_done, lines_next, lines_done}
use Rattle.review_html.proofs.lines.put_all.Goals as goal

pub lines-init : goal.lines-init
lines-init c = on_start (ShowsLine c.args.side c.args.marks.now) (enumerate_from 0 (map (λ one. one.now) c.args.lines.now)) (string_bytes c.args.out.now)

pub lines-preserved : goal.lines-preserved
lines-preserved c =
    let w = c.in_ok-put_shown.ensures.ok in
    on_step (ShowsLine c.args.side c.args.marks.now) (enumerate_from 0 (map (λ one. one.now) c.args.lines.now)) (string_bytes c.args.out.now) _ _ _ w.0 (string_bytes c.lines.out) (string_bytes c.put_shown.new.out)
    (lines_next c.args.lines.now c.lines.at (c.lines.at + 1) c.lines.at _ refl (omega (arith, c.lines-test.true))) c.lines.invariant w.1 w.2

pub returns : goal.returns
returns c = record {
  ok = (
      on_done (ShowsLine c.args.side c.args.marks.now) (enumerate_from 0 (map (λ one. one.now) c.args.lines.now)) (string_bytes c.args.out.now) _ (string_bytes c.lines.out)
      (lines_done c.args.lines.now c.lines.at c.lines.at (omega (arith, c.lines-test.false))) c.lines.invariant);
}
