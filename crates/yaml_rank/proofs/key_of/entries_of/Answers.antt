use Rattle.std.proofs.Common.{◌<◌, length, map, slice_index, subst, sym, ◌∙◌, ap}
use Rattle.std.specs.List.{All, slice_index_or}
use Rattle.yaml_tree.specs.declared.node.NodeId.{NodeId}
use Rattle.yaml_tree.specs.Places.{InOrder, AllRise}
use Rattle.yaml_rank.proofs.Arranging.{all-sorted, arranges}
use Rattle.yaml_rank.proofs.key_of.entries_of.Goals as goal

pub entry_ranks-requires : goal.entry_ranks-requires
entry_ranks-requires c =
    let rs = c.args.ranks.now in
    let es = c.args.entries.now in
    let P : NodeId × NodeId → Type 0 = λ p. (p.0.0 < length rs) × (p.1.0 < length rs) in
    subst (All P) (sym c.deref-4.ensures.value)
    (all-sorted rs es c.in_ok-sorted.sorted.items c.in_ok-order.order.items c.deref.result.now (c.deref.ensures.value ∙ c.in_ok-key_ranks.ensures.ok) c.in_ok-order.ensures.ok (λ d. c.in_ok-sorted.ensures.ok d ∙ ap (map (λ p. slice_index_or es p.1 d)) c.deref-3.ensures.value) P c.requires)

pub returns-clause-ok : goal.returns-clause-ok
returns-clause-ok c =
    let rs = c.args.ranks.now in
    let es = c.args.entries.now in
    let os = c.in_ok-order.order.items in
    let keys = c.deref.result.now in
    let rise : AllRise os = subst AllRise c.deref-2.ensures.value (c.in_default.ensures keys (subst (InOrder keys) (sym c.deref-2.ensures.value) c.in_ok-order.ensures.ok)) in
    arranges rs es c.in_ok-sorted.sorted.items os keys (c.deref.ensures.value ∙ c.in_ok-key_ranks.ensures.ok) c.in_ok-order.ensures.ok (λ d. c.in_ok-sorted.ensures.ok d ∙ ap (map (λ p. slice_index_or es p.1 d)) c.deref-3.ensures.value)
    rise c.in_ok-pairs.pairs.items (c.in_ok-pairs.ensures.ok ∙ ap (map (λ p. (slice_index rs p.0.0, slice_index rs p.1.0))) c.deref-4.ensures.value)
