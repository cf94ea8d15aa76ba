-- The places of each mapping's entries, put where its entries stand.
use Rattle.std.proofs.Common.{◌≡◌, ◌⊎◌, inl, inr, ℕ, ◌+◌, ◌-◌, ◌<◌, ◌≤◌, List, length, map, slice_index, sym, ◌∙◌, ap, subst, arith}
use Rattle.std.specs.Prelude.{Some}
use Rattle.std.specs.List.{slice_get, slice_range, All}
use Rattle.std.proofs.lemmas.List.Edits.{length-between}
use borrow.Rule.Slice.PartMut.{put_mid}
use Rattle.yaml_tree.proofs.Numbers.{below_or}
use Rattle.yaml_tree.proofs.Numbering.{one-there}
use Rattle.yaml_store.specs.declared.nodes.Span.{Span}
use Rattle.yaml_store.specs.declared.nodes.Node.{Node}
use Rattle.yaml_store.specs.declared.nodes.Place.TheVariants.{Mapping}
use Rattle.yaml_store.specs.StoreModel.{place_of, SpanWithin}
use Rattle.yaml_tree.specs.Places.{InOrder}
use Rattle.yaml_tree.specs.declared.node.NodeId.{NodeId}
use Rattle.yaml_store_rank.specs.PartsModel.{Differ}
use Rattle.yaml_store_rank.specs.KeyOrder.{number_pairs, ranks_of_keys, IsOrder, MappingAt, CanOrder, IsPut, OrderedUpto}
use Rattle.yaml_store_rank.proofs.KeyOrderLaws.{range-map, unmap, order-from, key-ranks-long}
use Rattle.yaml_store_rank.proofs.Settling.{put-long, put-here, put-other}

pub put-in : (s : Span) (rank : ℕ → ℕ) (es : List (ℕ × ℕ)) (old ys : List ℕ) → SpanWithin (length es) s → length old ≡ length es → IsOrder rank (slice_range es s.start s.end) ys → IsPut s rank es old (put_mid s.start (s.end - s.start) old ys)
put-in s rank es old ys within wide is =
    let b = within.1 in
    let w : SpanWithin (length old) s = (within.0, omega arith) in
    let long : length ys ≡ s.end - s.start = is.count ∙ length-between es s.start s.end b in
    record {
      long = put-long s old ys w long;
      here = subst (IsOrder rank (slice_range es s.start s.end)) (sym (put-here s old ys w long)) is;
      others = λ t a v. let e = v.1 in put-other s old ys w long t a (v.0, omega arith);
    }

module _ (rank : ℕ → ℕ) (es : List (ℕ × ℕ)) (nodes : List Node) where
  pub ordered-none : (order : List ℕ) → length order ≡ length es → OrderedUpto 0 rank es nodes order
  ordered-none order l = record { long = l; ordered = λ i s h m. absurd (omega arith) }

  pub ordered-all : (end : ℕ) (order : List ℕ) → length nodes ≤ end → OrderedUpto end rank es nodes order → OrderedUpto (length nodes) rank es nodes order
  ordered-all end order l o = record { long = o.long; ordered = λ i s h m. o.ordered i s (omega arith) m }

-- ---- one more node

module _ (nodes : List Node) (es : List (ℕ × ℕ)) (ranks : List ℕ) (can : CanOrder nodes es ranks) (k : ℕ) (n : Node) (there : slice_get nodes k ≡ Some n) (order : List ℕ) (before : OrderedUpto k (slice_index ranks) es nodes order) where
  place-there : (i : ℕ) (t : Span) → k ≡ i → MappingAt nodes i t → place_of n ≡ Mapping t
  place-there i t q m = ap place_of (one-there nodes i n m.0 (subst (λ z. slice_get nodes z ≡ Some n) q there) m.1) ∙ m.2

  pub ordered-mapping : (s : Span) → place_of n ≡ Mapping s → (new : List ℕ) → IsPut s (slice_index ranks) es order new → OrderedUpto (k + 1) (slice_index ranks) es nodes new
  ordered-mapping s e new put = record { long = put.long ∙ before.long; ordered = λ i t l m. by i t m (below_or i k) l }
    where
      by : (i : ℕ) (t : Span) → MappingAt nodes i t → (i < k) ⊎ (k ≤ i) → i < k + 1 → IsOrder (slice_index ranks) (slice_range es t.start t.end) (slice_range new t.start t.end)
      by i t m (inl a) l =
          subst (IsOrder (slice_index ranks) (slice_range es t.start t.end)) (sym (put.others t (inr (can.apart i k t s a m (n, there, e))) (can.within i t m))) (before.ordered i t a m)
      by i t m (inr a) l =
          let q : Mapping s ≡ Mapping t = sym e ∙ place-there i t (omega arith) m in
          let w : s ≡ t = cc in
          subst (λ (z : Span). IsOrder (slice_index ranks) (slice_range es z.start z.end) (slice_range new z.start z.end)) w put.here

  pub ordered-other : ((s : Span) → place_of n ≡ Mapping s → ⊥) → OrderedUpto (k + 1) (slice_index ranks) es nodes order
  ordered-other none = record { long = before.long; ordered = λ i t l m. by i t m (below_or i k) l }
    where
      by : (i : ℕ) (t : Span) → MappingAt nodes i t → (i < k) ⊎ (k ≤ i) → i < k + 1 → IsOrder (slice_index ranks) (slice_range es t.start t.end) (slice_range order t.start t.end)
      by i t m (inl a) l = before.ordered i t a m
      by i t m (inr a) l = absurd (none t (place-there i t (omega arith) m))

-- ---- a part of the entries

module _ (es : List (NodeId × NodeId)) (s : Span) (within : SpanWithin (length es) s) (part : List (NodeId × NodeId)) (is : part ≡ slice_range es s.start s.end) where
  part-pairs : number_pairs part ≡ slice_range (number_pairs es) s.start s.end
  part-pairs = ap number_pairs is ∙ range-map (λ (p : NodeId × NodeId). (p.0.0, p.1.0)) es s.start s.end

  pub part-long : length part ≡ s.end - s.start
  part-long = ap length is ∙ length-between es s.start s.end within.1

  pub part-few : length es < 4294967296 → length part < 4294967296
  part-few l = let a = within.0 in let b = within.1 in omega (arith, part-long)

  pub part-below : (ranks : List ℕ) → All (λ (p : ℕ × ℕ). p.0 < length ranks) (slice_range (number_pairs es) s.start s.end) → All (λ (p : NodeId × NodeId). p.0.0 < length ranks) part
  part-below ranks h = unmap (λ (p : NodeId × NodeId). (p.0.0, p.1.0)) (λ (p : ℕ × ℕ). p.0 < length ranks) part (subst (All (λ (p : ℕ × ℕ). p.0 < length ranks)) (sym part-pairs) h)

  pub part-ordered : (ranks : List ℕ) (ordered : List (ℕ × ℕ)) → InOrder (ranks_of_keys (slice_index ranks) (number_pairs part)) ordered → Differ (ranks_of_keys (slice_index ranks) (slice_range (number_pairs es) s.start s.end))
      → IsOrder (slice_index ranks) (slice_range (number_pairs es) s.start s.end) (map (λ p. p.1) ordered)
  part-ordered ranks ordered o d = order-from (slice_index ranks) (slice_range (number_pairs es) s.start s.end) ordered (subst (λ z. InOrder (ranks_of_keys (slice_index ranks) z) ordered) part-pairs o) d

  pub ordered-long : (ranks : List ℕ) (ordered : List (ℕ × ℕ)) → InOrder (ranks_of_keys (slice_index ranks) (number_pairs part)) ordered → length ordered ≡ s.end - s.start
  ordered-long ranks ordered o = o.count ∙ (key-ranks-long ranks part ∙ part-long)
