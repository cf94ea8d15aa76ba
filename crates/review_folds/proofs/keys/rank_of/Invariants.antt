use Rattle.std.proofs.Common.{◌≡◌, ℕ, ◌<◌, false}
use Rattle.yaml_definitions.specs.model.Same.{same}
use Rattle.yaml_store_rank.specs.Forests.{tree}
use Rattle.review_folds.specs.Labels.{string}
use Rattle.review_folds.proofs.keys.rank_of.Given as goal

abbrev pub invariant-loop-number : goal.invariant-loop-number
invariant-loop-number l = (i : ℕ) → i < l.number → same (string l.text) (tree l.forests i) ≡ false
