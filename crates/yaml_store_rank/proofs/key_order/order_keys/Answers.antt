use Rattle.std.proofs.Common.{subst, slice_index, [], ◌∷◌, ◌++◌, sym, ◌∙◌, ap, arith}
use Rattle.std.specs.List.Sorted.{IsPermutation}
use Rattle.std.proofs.lemmas.List.{take_all}
use Rattle.yaml_tree.proofs.PlaceLaws.{placed, placed-more, in-order}
use Rattle.yaml_store_rank.specs.KeyOrder.{number_pairs, ranks_of_keys}
use Rattle.yaml_store_rank.proofs.KeyOrderLaws.{value-at, pairs-long, key-ranks-long}
use Rattle.yaml_store_rank.proofs.key_order.order_keys.Goals as goal

pub loop-place-preserved : goal.loop-place-preserved
loop-place-preserved c =
    let rs = c.args.ranks.now in
    let es = c.args.entries.now in
    let ks = ranks_of_keys (slice_index rs) (number_pairs es) in
    let k = c.loop-place.place in
    let v = c.key_rank-rank.result in
    let t = c.loop-place-test.true in
    placed-more ks k v c.push.new.self.items (omega (arith, t, key-ranks-long rs es)) (c.key_rank-rank.ensures ∙ sym (value-at (slice_index rs) (number_pairs es) k (omega (arith, t, pairs-long es))))
    (c.in_ok-push.ensures.items ∙ ap (λ z. z ++ ((v, k) ∷ [])) c.loop-place.invariant)

pub returns : goal.returns
returns c =
    let rs = c.args.ranks.now in
    let es = c.args.entries.now in
    let ks = ranks_of_keys (slice_index rs) (number_pairs es) in
    in-order ks c.sort_unstable.new.self.items
    (subst (λ z. IsPermutation z c.sort_unstable.new.self.items) (c.loop-place.invariant ∙ ap (placed 0) (take_all c.loop-place.place ks (omega (arith, c.loop-place-test.false, key-ranks-long rs es)))) c.sort_unstable.ensures.permutation) c.sort_unstable.ensures.sorted
