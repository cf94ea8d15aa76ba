use Rattle.std.proofs.Common.{sym, subst}
use Rattle.yaml_store_rank.specs.Forests.{entries_at}
use Rattle.yaml_diff.specs.Found.{IsValueOf}
use Rattle.yaml_diff.proofs.Shapes.{value-ranked}
use Rattle.yaml_conflicts.proofs.NodeLaws.{value-below}
use Rattle.yaml_conflicts.proofs.values.value_in.Goals as goal

pub returns-clause-part : goal.returns-clause-part
returns-clause-part c =
    let g = c.args.forests.now in
    let i = c.args.node.0 in
    sym (value-ranked g c.laws.ensures i c.requires.within c.args.key.0 c.requires.key c.value_of.result (subst (λ z. IsValueOf g (entries_at g i) z c.value_of.result) c.rank.ensures c.value_of.ensures))

pub returns-clause-below : goal.returns-clause-below
returns-clause-below c = value-below c.args.forests.now c.laws.ensures c.args.node c.requires.within c.rank.result c.value_of.result c.value_of.ensures
