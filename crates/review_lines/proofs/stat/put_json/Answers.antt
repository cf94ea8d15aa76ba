use Rattle.review_lines.proofs.StatLaws.{five_put}
use Rattle.review_lines.proofs.stat.put_json.Goals as goal

pub returns : goal.returns
returns c = record {
  ok = (
      five_put _ _ _ _ _ _ _ _ _ _ _ (rw c.added.ensures at c.in_ok-put_number.ensures.ok) (rw c.changed.ensures at c.in_ok-put_number-2.ensures.ok) (rw c.moved.ensures at c.in_ok-put_number-3.ensures.ok) (rw c.removed.ensures at c.in_ok-put_number-4.ensures.ok)
      c.in_ok-put_whole.ensures.ok);
}
