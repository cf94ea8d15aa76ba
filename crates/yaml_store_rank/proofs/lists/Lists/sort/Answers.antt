use Rattle.std.proofs.Common.{rules, of_calls}
use Rattle.std.specs.Ordering.{is_lt}
use Rattle.std.proofs.lemmas.Fn.{always_returns_same}
use Rattle.std.proofs.lemmas.List.MinMax.{ranks_by}
use Rattle.std.proofs.lemmas.List.Sorted.{IsPermutation-trans}
use Rattle.yaml_store_rank.specs.KeyModel.{key_cmp}
use Rattle.yaml_store_rank.specs.SlotModel.{key_at}
use Rattle.yaml_store_rank.proofs.KeyOrder.{key_cmp-total}
use Rattle.yaml_store_rank.proofs.SlotLaws.{slots-rise}
use Rattle.yaml_store_rank.proofs.lists.Lists.sort.Goals as goal

pub returns-then-runs-clause-sorted : goal.returns-then-runs-clause-sorted
returns-then-runs-clause-sorted c =
    let l = c.args.self.now in
    slots-rise l c.sort_by.new.self.items (c.in_ok-sort_by.ensures.sorted (λ x y. is_lt (key_cmp (key_at l x) (key_at l y))) (ranks_by key_cmp-total (key_at l)) (always_returns_same _ _ _ (λ a r f k. search (rules, of_calls))))

pub returns-clause-sorted : goal.returns-clause-sorted
returns-clause-sorted c =
    let l = c.args.self.now in
    slots-rise l c.sort_unstable_by.new.self.items (c.sort_unstable_by.ensures.sorted (λ x y. is_lt (key_cmp (key_at l x) (key_at l y))) (ranks_by key_cmp-total (key_at l)) (always_returns_same _ _ _ (λ a r f k. search (rules, of_calls))))

pub returns-then-runs-clause-permutation : goal.returns-then-runs-clause-permutation
returns-then-runs-clause-permutation c = IsPermutation-trans c.args.slots.now.items c.in_runs.new.slots.items c.sort_by.new.self.items c.in_ok-runs.ensures c.sort_by.ensures.permutation

pub returns-clause-permutation : goal.returns-clause-permutation
returns-clause-permutation c = IsPermutation-trans c.args.slots.now.items c.in_runs.new.slots.items c.sort_unstable_by.new.self.items c.in_ok-runs.ensures c.sort_unstable_by.ensures.permutation
