use Rattle.std.proofs.Common.{take, map}
use Rattle.review_folds.specs.Labels.{AreEach}
use Rattle.review_folds.proofs.keys.keys_of.Given as goal

abbrev pub invariant-loop-text : goal.invariant-loop-text
invariant-loop-text l = AreEach l.forests (map (λ text. text.now) (take l.text-index l.texts)) l.keys.items
