use Rattle.std.proofs.Common.{sym, subst}
use Rattle.yaml_store_rank.proofs.ForestTrees.{scalar-shown}
use Rattle.review_lines.specs.Compared.{IsScalar}
use Rattle.review_lines.proofs.strings.scalar_of.Goals as goal

pub returns-in-Scalar : goal.returns-in-Scalar
returns-in-Scalar c =
    let s = c.in-Some-get.shown in
    subst (λ i. IsScalar c.args.forests.now i s.tag.now c.in-Scalar.content.now) (sym c.in-Some.is) (scalar-shown c.args.forests.now c.laws.ensures c.in-Some.id.0 s c.in-Some-get.ensures c.in-Scalar.content c.in-Scalar.is)
