use Rattle.review_folds.proofs.FoldLaws.{level_more, tellers_more}
use Rattle.review_folds.proofs.fold.tellers.Goals as goal

pub loop-number-preserved : goal.loop-number-preserved
loop-number-preserved c =
    let old = c.loop-number.tellers.items in
    record {
      level = level_more old _ c.loop-number.number _ c.loop-number.invariant.level c.in_ok-push.ensures.items;
      each = tellers_more c.args.list.now old _ c.loop-number.number _ c.loop-number.invariant.each c.loop-number.invariant.level (rw c.deref.ensures.value at c.teller_of-teller.ensures) c.in_ok-push.ensures.items;
    }
