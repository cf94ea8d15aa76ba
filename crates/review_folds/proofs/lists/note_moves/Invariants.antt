use Rattle.review_folds.specs.contracts.lists.KeyOrd.TheImpl.{ghosts}
use Rattle.review_folds.specs.Lists.{below_of}
use Rattle.review_folds.proofs.ListLaws.{MovesTo}
use Rattle.review_folds.proofs.lists.note_moves.Given as goal

abbrev pub invariant-loop-number : goal.invariant-loop-number
invariant-loop-number l = MovesTo (below_of ghosts.cmp l.numbers.below) l.moves l.number l.spans.items
