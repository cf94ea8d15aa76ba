use Rattle.std.proofs.Common.{refl}
use Rattle.yaml_tree_builder.proofs.AnchorLaws.{names-none, none-mapped}
use Rattle.yaml_tree_builder.proofs.anchors.Anchors.clear.Goals as goal

pub returns : goal.returns
returns c = names-none _ c.clear-2.ensures.items refl (none-mapped c.clear-3.new.self c.clear-3.ensures.empty)
