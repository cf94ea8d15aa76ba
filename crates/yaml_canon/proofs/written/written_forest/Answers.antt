use Rattle.std.proofs.Common.{◌<◌, length, sym, subst}
use Rattle.std.specs.List.{All}
use Rattle.yaml_canon.specs.RefusedRanks.{IsInStream}
use Rattle.yaml_canon.proofs.KeyLaws.{in-stream}
use Rattle.yaml_canon.proofs.RootRanks.{roots-below}
use Rattle.yaml_canon.proofs.written.written_forest.Goals as goal

pub rank_written-requires-clause-roots : goal.rank_written-requires-clause-roots
rank_written-requires-clause-roots c = subst (All (λ i. i < length c.args.forest.store.nodes.items)) (sym c.deref.ensures.value) (roots-below c.requires.0 c.args.forest c.requires.1)

pub returns-clause-err : goal.returns-clause-err
returns-clause-err c = λ ds is.
    let f = c.args.forest in
    let told = subst (λ firsts. IsInStream firsts c.in-Err.fault c.in_stream.result) c.deref-in-Err.ensures.value c.in_stream.ensures in
    in-stream ds f is c.in-Err.fault c.in_stream.result told (c.in-Err.ensures.err is.good)
