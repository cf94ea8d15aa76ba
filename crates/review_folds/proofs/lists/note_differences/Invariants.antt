use Rattle.review_folds.specs.contracts.lists.KeyOrd.TheImpl.{ghosts}
use Rattle.review_folds.specs.Lists.{below_of, IsWider}
use Rattle.review_folds.proofs.ListLaws.{DifferencesTo}
use Rattle.review_folds.proofs.lists.note_differences.Given as goal

abbrev pub invariant-loop-difference : goal.invariant-loop-difference
invariant-loop-difference l = record { wider : IsWider l.fn.spans.items l.spans.items; notes : DifferencesTo (below_of ghosts.cmp l.numbers.below) l.list l.number l.difference-index l.spans.items }
