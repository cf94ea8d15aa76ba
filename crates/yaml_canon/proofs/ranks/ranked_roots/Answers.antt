use Rattle.std.proofs.Common.{◌≡◌, ◌<◌, length, slice_index, sym, ◌∙◌, ap, subst, arith}
use Rattle.std.specs.List.{All}
use Rattle.std.specs.Vec.{with_items}
use Rattle.std.proofs.lemmas.List.{with_items_is, length-map}
use Rattle.yaml_store_rank.specs.Walked.{ranks_of, RanksTaken}
use Rattle.yaml_canon.specs.RefusedRanks.{IsInStream}
use Rattle.yaml_canon.proofs.KeyLaws.{in-stream, in-both}
use Rattle.yaml_canon.proofs.RootRanks.{roots-ranked, ranks-of-roots}
use Rattle.yaml_canon.proofs.ranks.ranked_roots.Goals as goal

pub take_ranks-requires : goal.take_ranks-requires
take_ranks-requires c =
    let h = c.requires.1 in
    let ranked = c.in-Ok.ranked in
    subst (All (λ i. i < length (ranks_of ranked))) (sym c.deref_mut.ensures.value) (roots-ranked c.requires.0 c.args.forest h ranked (c.in-Ok.ensures.ok h.good))

pub returns-in-Ok-clause-ok : goal.returns-in-Ok-clause-ok
returns-in-Ok-clause-ok c = λ ts h.
    let f = c.args.forest in
    let ranked = c.in-Ok.ranked in
    let next = c.take_ranks.new.nodes in
    let long : length next ≡ length c.deref_mut.result.now = ap length c.take_ranks.ensures.are ∙ length-map c.deref_mut.result.now (slice_index (ranks_of ranked)) in
    let e : (with_items f.roots next).items ≡ next = with_items_is f.roots next (omega (arith, long, ap length c.deref_mut.ensures.value, f.roots.ok.0)) in
    let taken : RanksTaken ranked f.roots.items next = subst (λ z. RanksTaken ranked z next) c.deref_mut.ensures.value c.take_ranks.ensures in
    ranks-of-roots ts f h (record { ranked = ranked; roots = with_items f.roots next }) (c.in-Ok.ensures.ok h.good)
    (subst (RanksTaken ranked f.roots.items) (sym e) taken)

pub returns-clause-err : goal.returns-clause-err
returns-clause-err c = λ ds is.
    let f = c.args.forest in
    let told = subst (λ firsts. IsInStream firsts c.in-Err.fault c.in_stream.result) c.deref.ensures.value c.in_stream.ensures in
    in-stream ds f is c.in-Err.fault c.in_stream.result told (c.in-Err.ensures.err is.good)

pub returns-clause-err_both : goal.returns-clause-err_both
returns-clause-err_both c = λ ds es is.
    let f = c.args.forest in
    let told = subst (λ firsts. IsInStream firsts c.in-Err.fault c.in_stream.result) c.deref.ensures.value c.in_stream.ensures in
    in-both ds es f is c.in-Err.fault c.in_stream.result told (c.in-Err.ensures.err is.good)
