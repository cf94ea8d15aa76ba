-- The comparison of keys is a total order.
use Rattle.std.proofs.Common.{◌≡◌, ℕ, List, [], refl, subst}
use Rattle.std.specs.declared.cmp.Ordering.{Ordering}
use Rattle.std.specs.Ordering.{ordering_then, nat_cmp}
use Rattle.std.specs.Cmp.{IsTotalOrder}
use Rattle.std.specs.Cmp.Lexicographic.{slice_cmp}
use Rattle.std.proofs.lemmas.Cmp.{nat_cmp_total, nat_list_cmp_total, lists_total, on_total, then_total}
use Rattle.yaml_definitions.specs.model.Order.{bytes_cmp}
use Rattle.yaml_definitions.proofs.OrderLaws.{then_equal}
use Rattle.yaml_tree.specs.Numbered.{pair_cmp}
use Rattle.yaml_tree.specs.View.{Inside, content, items, entries, items_in, entries_in}
use Rattle.yaml_tree.proofs.Numbers.{pair_cmp-total}
use Rattle.yaml_store_rank.specs.KeyModel.{inside_cmp, kind_number, key_cmp}

content_in : Inside → List ℕ
content_in (content x) = x
content_in (items x) = []
content_in (entries x) = []

parts_cmp : Inside → Inside → Ordering
parts_cmp k l = ordering_then (nat_cmp (kind_number k) (kind_number l)) (ordering_then (bytes_cmp (content_in k) (content_in l)) (ordering_then (slice_cmp nat_cmp (items_in k) (items_in l)) (slice_cmp pair_cmp (entries_in k) (entries_in l))))

parts_cmp-total : IsTotalOrder parts_cmp
unfolding parts_cmp
parts_cmp-total = then_total (on_total kind_number nat_cmp_total) (then_total (on_total content_in nat_list_cmp_total) (then_total (on_total items_in nat_list_cmp_total) (on_total entries_in (lists_total pair_cmp-total))))

by_parts : (k l : Inside) → parts_cmp k l ≡ inside_cmp k l
unfolding parts_cmp content_in
by_parts (content x) (content y) = then_equal (bytes_cmp x y)
by_parts (content x) (items y) = refl
by_parts (content x) (entries y) = refl
by_parts (items x) (content y) = refl
by_parts (items x) (items y) = then_equal (slice_cmp nat_cmp x y)
by_parts (items x) (entries y) = refl
by_parts (entries x) (content y) = refl
by_parts (entries x) (items y) = refl
by_parts (entries x) (entries y) = refl

inside_cmp-total : IsTotalOrder inside_cmp
inside_cmp-total = subst IsTotalOrder (λ i k l. by_parts k l i) parts_cmp-total

pub key_cmp-total : IsTotalOrder key_cmp
key_cmp-total = then_total (on_total (λ k. k.head) nat_cmp_total) (then_total (on_total (λ k. k.high) nat_cmp_total) (then_total (on_total (λ k. k.low) nat_cmp_total) (on_total (λ k. k.rest) inside_cmp-total)))
