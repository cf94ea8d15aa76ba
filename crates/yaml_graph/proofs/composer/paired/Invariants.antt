use Rattle.std.proofs.Common.{◌≡◌, ◌++◌, length}
use Rattle.yaml_tree.specs.ComposerSteps.{paired}
use Rattle.yaml_graph.proofs.composer.paired.Given as goal

abbrev pub invariant-loop-left : goal.invariant-loop-left
invariant-loop-left l = l.entries.items ++ paired l.left ≡ paired l.fn.parts

abbrev pub decreases-loop-left : goal.decreases-loop-left
decreases-loop-left l = length l.left
