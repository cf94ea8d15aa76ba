use Rattle.std.specs.Char.{encode_utf8}
use Rattle.review_lines.proofs.LineLaws.{eight_put}
use Rattle.review_lines.proofs.lines.Line.put_columns.Goals as goal

pub returns : goal.returns
unfolding encode_utf8
returns c = record {
  ok = (
      eight_put _ _ _ _ _ _ _ _ _ _ _ _ _ _ _ _ _ (rw c.color.ensures at c.in_ok-put_if.ensures.ok) (rw c.sign.ensures at c.in_ok-push_str.ensures.bytes) (rw c.as_str.ensures.value at c.in_ok-put_column.ensures.ok) c.in_ok-put_values.ensures.ok
      c.in_ok-put_places.ensures.ok c.in_ok-put_if-2.ensures.ok c.in_ok-push.ensures.bytes c.in_ok-put_below.ensures.ok);
}
