use Rattle.std.proofs.Common.{◌≡◌, ℕ, ◌<◌, ◌≤◌, List}
use Rattle.std.specs.Prelude.{Some}
use Rattle.std.specs.List.{slice_get}
use Rattle.yaml_definitions.specs.model.Limits.{height_limit}
use Rattle.yaml_definitions.specs.model.Tree.{Tree, height}
use Rattle.yaml_store.specs.StoreGrows.{Good, trees_of}
use Rattle.yaml_tree_builder.specs.BuilderModel.{AllAt}
use Rattle.yaml_tree_builder.proofs.too_high.first_too_high.Given as goal

abbrev pub invariant-loop-document : goal.invariant-loop-document
invariant-loop-document l = Good l.store → (trees : List Tree) → AllAt (trees_of l.store) l.roots trees → (k : ℕ) (t : Tree) → k < l.document → slice_get trees k ≡ Some t → height t ≤ height_limit
