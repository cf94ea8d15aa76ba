use Rattle.std.proofs.Common.{subst}
use Rattle.std.specs.Char.{encode_utf8}
use Rattle.review_merge.specs.Placed.{Tells}
use Rattle.review_merge.proofs.LineLaws.{line_put}
use Rattle.review_merge.proofs.lines.put_line.Goals as goal

pub returns : goal.returns
unfolding encode_utf8
returns c = record {
  ok = (
      let w = c.in_ok-put_places.ensures.ok in (
        w.0,
        subst (λ z. Tells c.args.number z w.0) c.deref.ensures.value w.1,
        line_put _ _ _ _ _ _ _ _ _ _ _ _ _ _ _ _ (rw c.color.ensures at c.in_ok-put_if.ensures.ok) (rw c.sign.ensures at c.in_ok-push_str.ensures.bytes) c.in_ok-push.ensures.bytes c.in_ok-put_visible.ensures.ok c.in_ok-put_values.ensures.ok w.2 c.in_ok-put_if-2.ensures.ok
            c.in_ok-push-2.ensures.bytes,
      ));
}
