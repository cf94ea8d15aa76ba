use Rattle.std.proofs.Common.{◌≡◌, ◌++◌, map}
use Rattle.std.specs.String.{string_bytes}
use Rattle.review_folds.proofs.StepLaws.{written}
use Rattle.review_folds.proofs.steps.step_texts.Given as goal

abbrev pub invariant-steps : goal.invariant-steps
invariant-steps l = map string_bytes l.texts.items ≡ map string_bytes l.initial.texts.items ++ map (written l.forests) (map (λ s. s.now) l.yielded)
