use Rattle.std.proofs.Common.{◌≡◌, ◌∷◌, take}
use Rattle.yaml_diff.specs.declared.difference.Step.TheVariants.{Item}
use Rattle.review_folds.proofs.keep.item_path.Given as goal

abbrev pub invariant-loop-step : goal.invariant-loop-step
invariant-loop-step l = l.path.items ≡ Item l.one.places ∷ take l.step-index l.one.path.items
