use Rattle.std.proofs.Common.{arith}
use Rattle.yaml_tree.proofs.PlaceLaws.{first-equal}
use Rattle.yaml_rank.proofs.order.first_equal.Goals as goal

pub returns : goal.returns
returns c = λ values is.
    let i = c.loop-at.invariant in
    first-equal values c.args.order.now is c.loop-at.at c.loop-at.best (omega (arith, c.loop-at-test.false)) i.2 (λ k h z. let m = i.1 in omega arith)
