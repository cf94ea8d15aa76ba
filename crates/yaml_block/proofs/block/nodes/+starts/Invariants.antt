use Rattle.std.proofs.Common.{◌+◌, ◌*◌}
use Rattle.yaml_sink.specs.PropertyRules.{props_of}
use Rattle.yaml_block.specs.OuterRules.{properties_left}
use Rattle.yaml_block.proofs.block.nodes.+starts.Given as goal

abbrev pub decreases-open_node : goal.decreases-open_node
decreases-open_node g l = 2 * properties_left (props_of l.outer)

abbrev pub decreases-open_under : goal.decreases-open_under
decreases-open_under g l = 2 * properties_left (props_of l.above.own) + 1
