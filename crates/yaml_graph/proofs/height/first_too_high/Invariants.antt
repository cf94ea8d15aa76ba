use Rattle.std.proofs.Common.{◌≡◌, ℕ, ◌<◌}
use Rattle.std.specs.Prelude.{Some}
use Rattle.std.specs.List.{slice_get}
use Rattle.yaml_graph.specs.ComposerModel.{IsBelow}
use Rattle.yaml_tree.specs.declared.node.NodeId.{NodeId}
use Rattle.yaml_graph.proofs.height.first_too_high.Given as goal

abbrev pub invariant-loop-document : goal.invariant-loop-document
invariant-loop-document l = (k : ℕ) (i : NodeId) → k < l.document → slice_get l.roots k ≡ Some i → IsBelow l.heights i
