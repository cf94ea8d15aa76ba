use Rattle.review_folds.specs.Moves.{OfOneList}
use Rattle.review_folds.proofs.moves.are_of_one_list.Given as goal

abbrev pub invariant-moves : goal.invariant-moves
invariant-moves l = OfOneList l.moves l.first l.number
