use Rattle.std.proofs.Common.{refl}
use Rattle.yaml_tree_builder.proofs.AnchorLaws.{names-none, none-mapped}
use Rattle.yaml_tree_builder.proofs.anchors.Anchors.new.Goals as goal

pub returns : goal.returns
returns c = names-none _ c.new-2.ensures.items refl (none-mapped c.new-4.result c.new-4.ensures.empty)
