use Rattle.std.proofs.Common.{◌≡◌, true, arith, rules}
use Rattle.review_folds.proofs.ListLaws.{at_index}
use Rattle.review_folds.proofs.MoveLaws.{range_more}
use Rattle.review_folds.proofs.moves.range_end.Goals as goal

pub range-preserved : goal.range-preserved
range-preserved c =
    let moves = c.args.moves.now in
    let p = c.index-moves-before.result in
    let q = c.index-moves-next.result in
    let follows : c.follows.result ≡ true = search rules in
    range_more moves c.args.first c.range.next p q (omega (arith, c.range.auto.next)) (at_index moves _ p (omega arith) c.index-moves-before.is) (at_index moves _ q (omega arith) c.index-moves-next.is) (c.follows.ensures.path follows) (c.follows.ensures.places follows) c.range.invariant

pub returns-clause-range : goal.returns-clause-range
returns-clause-range c = λ n a b l h k. c.range.invariant n a b (omega (arith, l, c.range-test.false)) h k
