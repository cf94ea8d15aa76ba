use Rattle.review_lines.proofs.LineLaws.{ten_put}
use Rattle.review_lines.proofs.lines.Line.put_object.Goals as goal

pub returns : goal.returns
returns c = record {
  ok = (
      ten_put _ _ _ _ _ _ _ _ _ _ _ _ _ _ _ _ _ _ _ _ _ (rw c.kind.ensures at c.in_ok-put_text.ensures.ok) (rw c.text_of.ensures at c.in_ok-put_text-2.ensures.ok) c.in_ok-put_place_json.ensures.ok (rw c.left_value.ensures at c.in_ok-put_raw.ensures.ok)
      (rw c.as_str.ensures.value at c.in_ok-put_text-3.ensures.ok) (rw c.text_of-2.ensures at c.in_ok-put_text-4.ensures.ok) c.in_ok-put_place_json-2.ensures.ok (rw c.right_value.ensures at c.in_ok-put_raw-2.ensures.ok) (rw c.steps.ensures at c.in_ok-put_raw-3.ensures.ok)
      c.in_ok-push_str.ensures.bytes);
}
