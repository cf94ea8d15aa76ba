use Rattle.std.proofs.Common.{ℕ, List, ◌-◌, length}
use Rattle.yaml_tree_builder.specs.AnchorsModel.{Names}
use Rattle.yaml_tree_builder.proofs.anchors.Anchors.find.Given as goal

abbrev pub invariant-loop-self : goal.invariant-loop-self
invariant-loop-self l = (names : List (List ℕ)) → Names l.fn.self names → Names l.self names

abbrev pub decreases-loop-self : goal.decreases-loop-self
decreases-loop-self l = length l.self.spans.items - l.self.mapped
