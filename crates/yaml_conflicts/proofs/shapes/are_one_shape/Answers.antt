use Rattle.std.proofs.Common.{sym, ◌∙◌}
use Rattle.yaml_store_rank.specs.Forests.{held_shown}
use Rattle.yaml_conflicts.proofs.NodeLaws.{node-shape}
use Rattle.yaml_conflicts.proofs.shapes.are_one_shape.Goals as goal

pub returns-then-eq : goal.returns-then-eq
returns-then-eq c =
    c.are_mappings.ensures ∙ node-shape c.args.forests.now c.laws.ensures c.args.left.0 c.args.right.0 (held_shown c.node-first.result) (held_shown c.node-second.result) _ c.node-first.ensures c.node-second.ensures (sym c.eq.ensures ∙ c.if-eq.true)

pub returns-else-eq : goal.returns-else-eq
returns-else-eq c =
    c.if-eq.false ∙ node-shape c.args.forests.now c.laws.ensures c.args.left.0 c.args.right.0 (held_shown c.node-first.result) (held_shown c.node-second.result) _ c.node-first.ensures c.node-second.ensures (sym c.eq.ensures ∙ c.if-eq.false)
