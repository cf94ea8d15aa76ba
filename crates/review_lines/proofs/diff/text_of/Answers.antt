use Rattle.std.proofs.Common.{arith}
use Rattle.review_lines.proofs.CompareLaws.{found_told}
use Rattle.review_lines.proofs.diff.text_of.Goals as goal

pub returns : goal.returns
returns c = record {
  ok = (
      found_told c.is_line-columns.result c.args.forests.now c.args.asked.now c.args.found.now c.deref.result.now c.in_ok-lines.lines.items c.in_ok-moves.moves.lines.items _ c.in_ok-moves.moves.untold _ _ _ _ c.left_out.result
      c.is_line-columns.ensures c.deref.ensures.value c.in_ok-lines.ensures.ok (omega (arith, c.saturating_sub-room.ensures, c.len.ensures)) c.in_ok-moves.ensures.ok c.new-text.ensures.bytes (rw c.deref-2.ensures.value at c.in_ok-put_each.ensures.ok) (rw c.deref-3.ensures.value at c.in_ok-put_each-2.ensures.ok) (rw c.deref-4.ensures.value at c.left_out.ensures) c.in_ok-put_rest.ensures.ok);
}
