use Rattle.std.proofs.Common.{subst, get_or, [], ◌∷◌, ◌++◌, ◌∙◌, ap, refl}
use Rattle.std.specs.List.Sorted.{IsPermutation}
use Rattle.std.proofs.lemmas.List.{take_all}
use Rattle.yaml_tree.proofs.PlaceLaws.{placed, placed-more, in-order}
use Rattle.yaml_rank.proofs.order.in_order.Goals as goal

pub loop-place-preserved : goal.loop-place-preserved
loop-place-preserved c =
    let vs = c.args.values.now in
    let k = c.loop-place.place in
    placed-more vs k (get_or vs k 0) c.push.new.self.items c.loop-place-test.true refl (c.in_ok-push.ensures.items ∙ ap (λ z. z ++ ((get_or vs k 0, k) ∷ [])) c.loop-place.invariant)

pub returns : goal.returns
returns c = record {
  ok = (
      in-order c.args.values.now c.sort_unstable.new.self.items
      (subst (λ z. IsPermutation z c.sort_unstable.new.self.items) (c.loop-place.invariant ∙ ap (placed 0) (take_all c.loop-place.place c.args.values.now c.loop-place-test.false)) c.sort_unstable.ensures.permutation) c.sort_unstable.ensures.sorted);
}
