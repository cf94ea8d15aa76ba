use Rattle.std.proofs.Common.{◌∙◌, refl, subst}
use Rattle.review_text.specs.Window.{IsEnd, IsStart, Sides, window}
use Rattle.review_text.proofs.Pieces.{on_ok}
use Rattle.review_text.proofs.fronts.put_source_line.Goals as goal

pub returns : goal.returns
returns c = record {
  ok = (
      let before = c.last.result.now in
      let behind = c.first.result.now in
      let left = c.sides.result.0.now in
      let right = c.sides.result.1.now in
      on_ok c.put_window.result c.put_window.ensures.ok (λ h. record {
        shown = window before behind;
        shows = record {
          left = left;
          right = right;
          before = before;
          behind = behind;
          sides = subst (λ n. Sides c.args.text.now n left right) c.min.ensures c.sides.ensures;
          ends = subst (λ z. IsEnd z before) (c.deref.ensures ∙ c.in_ok-before.ensures.lossy) c.last.ensures;
          starts = subst (λ z. IsStart z behind) (c.deref-2.ensures ∙ c.in_ok-behind.ensures.lossy) c.first.ensures;
          is = refl;
        };
        is = h;
      }));
}
