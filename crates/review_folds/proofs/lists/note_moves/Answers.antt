use Rattle.std.proofs.Common.{arith}
use Rattle.review_folds.specs.contracts.lists.KeyOrd.TheImpl.{ghosts}
use Rattle.review_folds.specs.Lists.{below_of}
use Rattle.review_folds.proofs.ListLaws.{moves_next, moves_all}
use Rattle.review_folds.proofs.lists.note_moves.Goals as goal

pub loop-number-preserved : goal.loop-number-preserved
loop-number-preserved c =
    moves_next (below_of ghosts.cmp c.args.numbers.now.below) c.args.moves.now c.loop-number.number c.index-moves-number.result c.loop-number.spans.items c.note.new.spans.items (omega arith) c.index-moves-number.is c.note.ensures.wider (rw c.deref.ensures.value at c.note.ensures.notes) c.loop-number.invariant

pub returns : goal.returns
returns c = moves_all (below_of ghosts.cmp c.args.numbers.now.below) c.args.moves.now c.loop-number.number c.loop-number.spans.items (omega arith) c.loop-number.invariant
