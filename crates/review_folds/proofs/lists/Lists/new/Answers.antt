use Rattle.std.proofs.Common.{length, ap}
use Rattle.review_folds.specs.contracts.lists.KeyOrd.TheImpl.{ghosts}
use Rattle.review_folds.specs.Lists.{below_of}
use Rattle.review_folds.proofs.ListLaws.{covers}
use Rattle.review_folds.proofs.lists.Lists.new.Goals as goal

pub returns : goal.returns
returns c = record {
  ok = (
      covers (below_of ghosts.cmp c.in_ok-numbers.numbers.below) c.args.found.now c.deref-moves.result.now c.deref-2.result.now _ c.note_moves.new.spans.items c.note_differences.new.spans.items
      c.deref-moves.ensures.value c.deref-2.ensures.value (ap length c.deref-moves.ensures.value) c.note_differences.ensures.wider c.note_moves.ensures c.note_differences.ensures.notes);
}
