use Rattle.std.proofs.Common.{◌≡◌, List, ℕ, ◌∙◌, length, map, ap, sym, subst, arith}
use Rattle.std.specs.Borrow.{Bor}
use Rattle.std.specs.String.{string_bytes}
use Rattle.std.proofs.lemmas.List.{length-map}
use Rattle.review_formats.specs.Escaped.{escaped}
use Rattle.review_formats.specs.declared.escape.Escape.TheVariants.{Html}
use Rattle.review_html.specs.Lines.{file_lines}
use Rattle.review_html.specs.Marks.{AreMarks}
use Rattle.review_html.proofs.TextLaws.{lines_put}
use Rattle.review_html.proofs.lines.put_lines.Goals as goal

pub returns : goal.returns
returns c = record {
  ok = (
      let now = λ (one : Bor (List ℕ)). one.now in
      let lines = c.deref-3.result.now in
      let count : c.len.result ≡ length (map now lines) = omega (arith, c.len.ensures, c.in_ok-lines.lines.ok.0, ap length c.deref-3.ensures.value, length-map lines now) in
      let marks = subst (AreMarks c.args.side c.args.before c.args.list.now (length (map now lines))) (sym c.deref-4.ensures.value) (subst (λ z. AreMarks c.args.side c.args.before c.args.list.now z c.in_ok-marks.marks.items) count c.in_ok-marks.ensures.ok) in
      lines_put c.args.side c.args.list.now c.args.before c.args.shown.now (map now lines) c.deref-4.result.now (string_bytes c.args.out.now) (string_bytes c.put_pieces.new.out) (string_bytes c.put_all.new.out) (string_bytes c.push_str.new.self)
      (ap (map now) c.deref-3.ensures.value ∙ c.in_ok-lines.ensures.ok ∙ ap file_lines c.deref.ensures) marks
      (rw (c.text.ensures ∙ ap (escaped Html) c.deref-2.ensures) at c.in_ok-put_pieces.ensures.ok) c.in_ok-put_all.ensures.ok c.in_ok-push_str.ensures.bytes);
}
