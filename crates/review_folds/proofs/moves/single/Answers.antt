use Rattle.std.proofs.Common.{◌+◌, false, refl, subst, arith}
use Rattle.review_folds.specs.Moves.{Groups}
use Rattle.review_folds.proofs.MoveLaws.{range_one, groups_more}
use Rattle.review_folds.proofs.moves.single.Goals as goal

pub loop-first-preserved : goal.loop-first-preserved
loop-first-preserved c =
    let at = c.loop-first.first in
    groups_more false c.args.ranges c.args.found.now 0 at c.loop-first.groups.items _ (record { first = at; end = at + 1; whole = false }) c.loop-first.invariant refl (omega arith) (range_one c.args.found.now.moves.items at (at + 1) refl, λ l. absurd (omega (arith, l))) c.in_ok-push.ensures.items

pub returns : goal.returns
returns c = record { ok = (subst (λ z. Groups false c.args.ranges c.args.found.now 0 z c.loop-first.groups.items) (omega arith) c.loop-first.invariant) }
