use Rattle.std.proofs.Common.{arith}
use Rattle.review_folds.proofs.ValueLaws.{value_by, value_within}
use Rattle.review_folds.proofs.values.value_in.Goals as goal

pub returns-then-node-len-clause-part : goal.returns-then-node-len-clause-part
returns-then-node-len-clause-part c x is =
    value_by c.args.forests.now c.laws.ensures c.args.node.0 (omega (arith, c.if-node-len.true, c.len.ensures)) x c.args.rank is c.in-Some.rank c.value_of.result c.in-Some.is c.value_of.ensures

pub returns-then-node-len-clause-within : goal.returns-then-node-len-clause-within
returns-then-node-len-clause-within c = value_within c.args.forests.now c.laws.ensures c.args.node.0 (omega (arith, c.if-node-len.true, c.len.ensures)) c.in-Some.rank c.value_of.result c.value_of.ensures
