use Rattle.std.proofs.Common.{refl, is_some}
use Rattle.review_lines.proofs.MoveLaws.{group_told}
use Rattle.review_lines.proofs.moved.line_of_group.Goals as goal

pub returns : goal.returns
returns c = record {
  ok = (
      group_told (is_some c.args.keys.now) c.args.forests.now c.args.asked.now c.args.moves.now c.args.group c.in_ok-first.first c.deref.result.now c.deref-2.result.now c.last_of-last.result _ c.in_ok-first.ensures.ok c.deref.ensures.value c.deref-2.ensures.value
      c.last_of-last.ensures c.in_ok-path.ensures.ok refl refl refl c.in_ok-label.ensures.ok c.in_ok-members.ensures.ok refl);
}
