use Rattle.std.proofs.Common.{refl}
use Rattle.review_folds.proofs.MoveLaws.{whole_is, one_at}
use Rattle.review_folds.proofs.moves.whole_end.Goals as goal

pub returns-clause-whole : goal.returns-clause-whole
returns-clause-whole c =
    let f = c.args.found.now in
    let is = c.if-not-is_of_moves.ensures in
    whole_is f c.args.first _ c.in_ok-span.span c.in_ok-span.ensures (is.whole refl) (is.first refl) (is.several refl) (is.within refl) refl (one_at c.deref.result.now f.moves.items c.args.first _ c.deref.ensures.value (c.if-not-are_of_one_list.ensures refl))
