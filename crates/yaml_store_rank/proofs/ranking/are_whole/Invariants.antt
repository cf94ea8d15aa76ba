use Rattle.std.proofs.Common.{◌≡◌, ◌<◌, ℕ, Some}
use Rattle.std.specs.List.{slice_get}
use Rattle.yaml_store.specs.declared.nodes.Node.{Node}
use Rattle.yaml_store.specs.StoreModel.{place_of}
use Rattle.yaml_store.specs.TextModel.{border, PlaceWhole}
use Rattle.yaml_store_rank.proofs.ranking.are_whole.Given as goal

abbrev pub invariant-loop-node : goal.invariant-loop-node
invariant-loop-node l = (k : ℕ) (n : Node) → k < l.node-index → slice_get l.nodes k ≡ Some n → PlaceWhole (border l.text) (place_of n)
