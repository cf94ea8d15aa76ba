use Rattle.std.proofs.Common.{reverse}
use Rattle.yaml_definitions.specs.model.Event.{alias_event}
use Rattle.yaml_tree_builder.proofs.NodeLaws.{alias-node}
use Rattle.yaml_store_composer.proofs.DueLaws.{tells-node}
use Rattle.yaml_store_composer.proofs.pending.PendingProperties.alias.Goals as goal

pub returns : goal.returns
returns c =
    let mid = c.go_on.new.self in
    let x = c.args.name.now in
    λ log l t. tells-node mid.judged c.alias.new.self mid.ended (reverse mid.opens.items) mid.early c.args.at c.in_ok-number.number (alias_event x) c.in_ok-go_on.ensures.none (alias-node x) c.in_ok-number.ensures c.in_ok-alias.ensures log l (c.in_ok-go_on.ensures.tells log t)
