use Rattle.review_compare.proofs.SideLaws.{compares}
use Rattle.review_compare.proofs.listing.list_sides.Goals as goal

pub returns-in-Ok-clause-same : goal.returns-in-Ok-clause-same
returns-in-Ok-clause-same c e = compares c.args.left.now c.args.right.now c.in_ok-forests.forests c.laws.ensures c.in_ok-forests.ensures c.in-Ok.told.same (c.in-Ok.ensures.same e)

pub returns-in-Ok-clause-lists : goal.returns-in-Ok-clause-lists
returns-in-Ok-clause-lists c = record { forests = c.in_ok-forests.forests; show = c.in_ok-forests.ensures; lists = c.in-Ok.ensures.lists }
