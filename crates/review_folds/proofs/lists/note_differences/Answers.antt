use Rattle.std.proofs.Common.{arith}
use Rattle.review_folds.specs.contracts.lists.KeyOrd.TheImpl.{ghosts}
use Rattle.review_folds.specs.Lists.{below_of}
use Rattle.review_folds.proofs.ListLaws.{wider_twice, differences_next, differences_all}
use Rattle.review_folds.proofs.lists.note_differences.Goals as goal

pub loop-difference-preserved : goal.loop-difference-preserved
loop-difference-preserved c =
    let old = c.loop-difference.spans.items in
    let new = c.note.new.spans.items in
    record {
      wider = wider_twice c.args.spans.now.items old new c.loop-difference.invariant.wider c.note.ensures.wider;
      notes = differences_next (below_of ghosts.cmp c.args.numbers.now.below) c.args.list.now c.args.number c.loop-difference.difference-index c.difference-item.result old new (omega arith) c.difference-item.is c.note.ensures.wider (rw c.deref.ensures.value at c.note.ensures.notes) c.loop-difference.invariant.notes;
    }

pub returns-clause-notes : goal.returns-clause-notes
returns-clause-notes c = differences_all (below_of ghosts.cmp c.args.numbers.now.below) c.args.list.now c.args.number c.loop-difference.difference-index c.loop-difference.spans.items (omega arith) c.loop-difference.invariant.notes
