use Rattle.std.proofs.Common.{◌≡◌, drop}
use Rattle.yaml_tree_builder.specs.AnchorsModel.{hashed}
use Rattle.yaml_tree_builder.proofs.anchors.place_of.Given as goal

abbrev pub invariant-loop-byte : goal.invariant-loop-byte
invariant-loop-byte l = hashed l.hash (drop l.byte-index l.end) ≡ hashed 0 l.end
