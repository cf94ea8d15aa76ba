use Rattle.yaml_pair.proofs.TreeLaws.{value-some, value-none, entries-there}
use Rattle.yaml_pair.proofs.nodes.value_at.Goals as goal

pub returns-in-Mapping : goal.returns-in-Mapping
returns-in-Mapping c = λ l.
    let g = c.args.forests.now in
    let n = c.in_ok-entries.field-0 in
    let es = c.in-Mapping.entries in
    value-some g c.laws.ensures c.args.id.0 n c.in_ok-entries.ensures c.args.key.now es c.value_in.result c.in-Mapping.is (c.value_in.ensures (entries-there g c.laws.ensures c.args.id.0 n c.in_ok-entries.ensures es c.in-Mapping.is l))

pub returns-in_default : goal.returns-in_default
returns-in_default c = λ l. value-none c.args.forests.now c.laws.ensures c.args.id.0 c.in_ok-entries.field-0 c.in_ok-entries.ensures c.args.key.now c.in_default.not-Mapping
