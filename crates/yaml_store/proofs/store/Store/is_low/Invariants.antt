use Rattle.std.proofs.Common.{◌≡◌, ◌<◌, ◌≤◌, ℕ, Some}
use Rattle.std.specs.List.{slice_get}
use Rattle.yaml_definitions.specs.model.Limits.{height_limit}
use Rattle.yaml_store.specs.declared.nodes.Node.{Node}
use Rattle.yaml_store.proofs.store.Store.is_low.Given as goal

abbrev pub invariant-loop-node : goal.invariant-loop-node
invariant-loop-node l = (k : ℕ) (n : Node) → k < l.node-index → slice_get l.self.nodes.items k ≡ Some n → n.height ≤ height_limit
