use Rattle.review_compare.proofs.SideLaws.{compares}
use Rattle.review_compare.proofs.both.compare_sides.Goals as goal

pub returns-in-Ok-clause-same : goal.returns-in-Ok-clause-same
returns-in-Ok-clause-same c e = compares c.args.left.now c.args.right.now c.in_ok-forests.forests c.laws.ensures c.in_ok-forests.ensures c.in-Ok.told.same (c.in-Ok.ensures.same e)

pub returns-in-Ok-clause-lines : goal.returns-in-Ok-clause-lines
returns-in-Ok-clause-lines c = record { forests = c.in_ok-forests.forests; show = c.in_ok-forests.ensures; tells = c.in-Ok.ensures.text }
