use Rattle.std.specs.Char.{encode_utf8}
use Rattle.review_merge.proofs.LineLaws.{streams_put}
use Rattle.review_merge.proofs.lines.put_streams.Goals as goal

pub returns : goal.returns
unfolding encode_utf8
returns c = record {
  ok = (
      streams_put _ _ _ _ _ _ _ _ _ _ _ _ _ _ _ _ _ _ (rw c.color.ensures at c.in_ok-put_if.ensures.ok) (rw c.sign.ensures at c.in_ok-push_str.ensures.bytes) c.in_ok-push.ensures.bytes c.in_ok-put_count.ensures.ok c.in_ok-put_count-2.ensures.ok c.in_ok-put_count-3.ensures.ok c.in_ok-put_result_count.ensures.ok
      c.in_ok-put_if-2.ensures.ok c.in_ok-push-2.ensures.bytes);
}
