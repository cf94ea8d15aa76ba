use Rattle.yaml_pair.proofs.TreeLaws.{text-some, text-none}
use Rattle.yaml_pair.proofs.nodes.text_at.Goals as goal

pub returns-in-Scalar : goal.returns-in-Scalar
returns-in-Scalar c = λ l. text-some c.args.forests.now c.laws.ensures c.args.id.0 c.in_ok-content.field-0 c.in_ok-content.ensures c.in-Scalar.content c.in-Scalar.is

pub returns-in_default : goal.returns-in_default
returns-in_default c = λ l. text-none c.args.forests.now c.laws.ensures c.args.id.0 c.in_ok-content.field-0 c.in_ok-content.ensures c.in_default.not-Scalar
