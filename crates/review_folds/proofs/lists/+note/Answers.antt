use Rattle.std.proofs.Common.{rules}
use Rattle.review_folds.specs.contracts.lists.KeyOrd.TheImpl.{ghosts}
use Rattle.review_folds.specs.Lists.{below_of}
use Rattle.review_folds.proofs.ListLaws.{notes_more}
use Rattle.review_folds.proofs.lists.+note.Goals as goal

pub returns-clause-notes : goal.returns-clause-notes
returns-clause-notes t c =
    notes_more (below_of ghosts.cmp c.args.numbers.now.below) c.args.path.now c.in-Some.rest.now c.in-Some.step.now c.args.number c.in_ok-above.above c.in_ok-list.list c.note.new.spans.items c.widen-2.new.spans.items (search rules) c.in_ok-above.ensures.at c.in_ok-list.ensures c.note.ensures.notes c.widen-2.ensures.wider c.widen-2.ensures.has
