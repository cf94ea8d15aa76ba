use Rattle.review_folds.proofs.MoveLaws.{range_at}
use Rattle.review_folds.proofs.moves.group_at.Goals as goal

pub returns-else-end-all-clause-tells : goal.returns-else-end-all-clause-tells
returns-else-end-all-clause-tells c = (range_at c.deref.result.now c.args.found.now.moves.items c.args.first c.range_or_one-end.result c.deref.ensures.value c.range_or_one-end.ensures.range, c.range_or_one-end.ensures.told)

pub returns-in_default-clause-tells : goal.returns-in_default-clause-tells
returns-in_default-clause-tells c = (range_at c.deref.result.now c.args.found.now.moves.items c.args.first c.range_or_one-end.result c.deref.ensures.value c.range_or_one-end.ensures.range, c.range_or_one-end.ensures.told)
