use Rattle.std.proofs.Common.{inr, ap}
use Rattle.review_html.specs.Lines.{line_text}
use Rattle.review_html.proofs.TextLaws.{on_ok}
use Rattle.review_html.proofs.lines.put_shown.Goals as goal

pub returns-then-is_shown : goal.returns-then-is_shown
returns-then-is_shown c = record {
  ok = (
      let front = c.front.result.now in
      let mark = c.mark_at.result in
      on_ok c.put_line.result (λ e. (line_text c.args.side c.args.at mark front, inr (rw c.is_shown.ensures at c.if-is_shown.true, (front, c.front.ensures, ap (λ z. line_text c.args.side c.args.at z front) c.mark_at.ensures)), e)) c.put_line.ensures.ok);
}
