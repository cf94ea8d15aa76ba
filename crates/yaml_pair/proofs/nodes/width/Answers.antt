use Rattle.yaml_pair.proofs.TreeLaws.{width-scalar, width-sequence, width-mapping}
use Rattle.yaml_pair.proofs.nodes.width.Goals as goal

pub returns-in-Scalar : goal.returns-in-Scalar
returns-in-Scalar c = λ l. width-scalar c.args.forests.now c.laws.ensures c.args.id.0 c.in-Some.node c.in-Some.ensures c.in-Scalar.field-0 c.in-Scalar.is

pub returns-in-Sequence : goal.returns-in-Sequence
returns-in-Sequence c = λ l. width-sequence c.args.forests.now c.laws.ensures c.args.id.0 c.in-Some.node c.in-Some.ensures c.in-Sequence.items c.in-Sequence.is

pub returns-in-Mapping : goal.returns-in-Mapping
returns-in-Mapping c = λ l. width-mapping c.args.forests.now c.laws.ensures c.args.id.0 c.in-Some.node c.in-Some.ensures c.in-Mapping.entries c.in-Mapping.is
