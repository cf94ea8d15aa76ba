use Rattle.yaml_pair.proofs.TreeLaws.{rank-some, rank-none}
use Rattle.yaml_pair.proofs.nodes.scalar_rank_at.Goals as goal

pub returns-in-Scalar : goal.returns-in-Scalar
returns-in-Scalar c = λ l. rank-some c.args.forests.now c.laws.ensures c.args.id.0 c.in_ok-get.field-0 c.in_ok-get.ensures c.in-Scalar.field-0 c.rank_at.result l c.in-Scalar.is (c.rank_at.ensures l)

pub returns-in_default : goal.returns-in_default
returns-in_default c = λ l. rank-none c.args.forests.now c.laws.ensures c.args.id.0 c.in_ok-get.field-0 c.in_ok-get.ensures c.in_default.not-Scalar
