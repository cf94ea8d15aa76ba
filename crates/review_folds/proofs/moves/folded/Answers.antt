use Rattle.std.proofs.Common.{true, subst, arith}
use Rattle.review_folds.specs.Moves.{Groups}
use Rattle.review_folds.proofs.MoveLaws.{groups_more}
use Rattle.review_folds.proofs.moves.folded.Goals as goal

pub loop-at-preserved : goal.loop-at-preserved
loop-at-preserved c =
    let g = c.group_at-group.result in
    record {
      within = c.group_at-group.ensures.within;
      groups = groups_more true c.args.ranges c.args.found.now 0 c.loop-at.at c.loop-at.groups.items _ g c.loop-at.invariant.groups c.group_at-group.ensures.first c.group_at-group.ensures.some c.group_at-group.ensures.tells c.in_ok-push.ensures.items;
    }

pub returns : goal.returns
returns c = record { ok = (subst (λ z. Groups true c.args.ranges c.args.found.now 0 z c.loop-at.groups.items) (omega (arith, c.loop-at.invariant.within, c.loop-at-test.false)) c.loop-at.invariant.groups) }
