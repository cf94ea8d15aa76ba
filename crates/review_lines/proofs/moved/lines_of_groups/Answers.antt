use Rattle.std.proofs.Common.{refl, is_some, arith}
use Rattle.review_lines.proofs.CompareLaws.{groups_next, groups_all}
use Rattle.review_lines.proofs.moved.lines_of_groups.Goals as goal

pub loop-number-preserved : goal.loop-number-preserved
loop-number-preserved c =
    groups_next (is_some c.args.keys.now) c.args.forests.now c.args.asked.now c.args.moves.now c.args.groups.now c.loop-number.lines.items _ c.loop-number.number _ _ _ (omega arith) refl c.loop-number.invariant c.in_ok-line_of_group.ensures.ok c.in_ok-push.ensures.items

pub returns : goal.returns
returns c = record { ok = (groups_all (is_some c.args.keys.now) c.args.forests.now c.args.asked.now c.args.moves.now c.args.groups.now c.loop-number.lines.items c.loop-number.number (omega arith) c.loop-number.invariant) }
