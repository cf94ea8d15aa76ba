use Rattle.std.proofs.Common.{rules, []}
use Rattle.yaml_canon.proofs.ForestLaws.{meant}
use Rattle.yaml_canon.proofs.RefusedLaws.{no-memory, not-made}
use Rattle.yaml_canon.proofs.forest.forest_of.Goals as goal

pub returns-clause-forest : goal.returns-clause-forest
returns-clause-forest c =
    let k = c.in_ok-keeper.ensures.takes c.args.bytes.now c.in_ok-source.ensures.source in
    record { documents = k.documents; read = k.read; forest = c.in_ok-forest.ensures.forest k.documents (k.puts.is [] c.in_ok-empty.ensures) }

pub returns-clause-means : goal.returns-clause-means
returns-clause-means c = meant c.args.bytes.now c.in_ok-forest.forest (returns-clause-forest c)

pub returns-in_err-empty-clause-why : goal.returns-in_err-empty-clause-why
returns-in_err-empty-clause-why c =
    let told = no-memory c.args.bytes.now c.in_ok-source.source c.in_ok-source.ensures.source in
    search (rules, told)

pub returns-in_err-forest-clause-why : goal.returns-in_err-forest-clause-why
returns-in_err-forest-clause-why c =
    let k = c.in_ok-keeper.ensures.takes c.args.bytes.now c.in_ok-source.ensures.source in
    let told = not-made c.args.bytes.now k.documents c.in_err-forest.field-0.0 (record { reads = k.read }) (c.in_err-forest.ensures.refused k.documents (k.puts.is [] c.in_ok-empty.ensures)) in
    search (rules, told)
