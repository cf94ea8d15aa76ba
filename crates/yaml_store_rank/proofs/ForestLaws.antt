-- What is shown of nodes that are held.
use Rattle.std.proofs.Common.{◌≡◌, ℕ, ◌+◌, ◌-◌, ◌<◌, ◌≤◌, List, [], ◌∷◌, length, get_or, slice_index, refl, sym, ◌∙◌, ap, subst, arith}
use Rattle.std.specs.Prelude.{Option, None, Some}
use Rattle.std.specs.List.{slice_get, slice_range, All}
use Rattle.std.specs.Str.{IsUtf8}
use Rattle.std.proofs.lemmas.List.{length-map}
use Rattle.std.proofs.lemmas.List.Edits.{length-between, get_or-between}
use Rattle.yaml_definitions.specs.model.Tree.{height}
use Rattle.yaml_tree.specs.View as view
use Rattle.yaml_tree.specs.View.{entries_in, InsideBelow}
use Rattle.yaml_tree.specs.Insides.{Held}
use Rattle.yaml_tree.specs.declared.node.NodeId.{NodeId}
use Rattle.yaml_tree.proofs.Lists.{get-map, get_or-any, get_or-map}
use Rattle.yaml_tree.proofs.Numbering.{get-there}
use Rattle.yaml_store.specs.declared.nodes.Kind.{Kind}
use Rattle.yaml_store.specs.declared.nodes.Kind.TheVariants as kinds
use Rattle.yaml_store.specs.declared.nodes.Node.{Node}
use Rattle.yaml_store.specs.declared.nodes.Span.{Span}
use Rattle.yaml_store.specs.declared.nodes.Place.{Place}
use Rattle.yaml_store.specs.declared.nodes.Place.TheVariants.{Scalar, Sequence, Mapping}
use Rattle.yaml_store.specs.TextModel.{text_of, border, IsWhole, PlaceWhole}
use Rattle.yaml_store.specs.StoreModel.{place, place_of, inside_of, node_held, tag_at, SpanWithin, Within}
use Rattle.yaml_store.specs.StoreGrows.{IsText}
use Rattle.yaml_store.proofs.Growing.{within-from}
use Rattle.yaml_store_rank.specs.Forests.{Forests, count, rank, tree, entries_at, entries_held, InKeyOrder, IsPlaceOf}
use Rattle.yaml_store_rank.specs.KeyOrder.{numbers, number_pairs, entry_at, IsOrder}
use Rattle.yaml_store_rank.specs.Written.{forests_of, Holds}
use Rattle.yaml_store_rank.specs.declared.forests.RankedForests.TheInside.{Inside}
use Rattle.yaml_store_rank.proofs.KeyOrderLaws.{range-map, unmap, pairs-long, entry-is}
use Rattle.yaml_store_rank.proofs.WrittenLaws.{cut-at, cut-length, end-within}

abbrev pub inside_in : Inside → Place → view.Inside
inside_in v p = inside_of (text_of v.text) (numbers v.items.items) (number_pairs v.entries.items) p

abbrev pub held_in : Inside → Node → Held
held_in v n = node_held (text_of v.text) (numbers v.items.items) (number_pairs v.entries.items) v.tags n

module _ (v : Inside) (holds : Holds v) (f : Forests) (is : forests_of v ≡ f) where
  -- ---- streams

  pub streams-count : length f.streams ≡ length v.ends.items
  streams-count = sym (ap (λ z. length z.streams) is) ∙ cut-length (numbers v.roots.items) 0 v.ends.items

  module _ (k : ℕ) (l : k < length f.streams) where
    pub end-there : k < length v.ends.items
    end-there = omega (arith, l, ap (λ z. length z.streams) is, cut-length (numbers v.roots.items) 0 v.ends.items)

    pub ends-there : (slice_index (0 ∷ v.ends.items) k ≤ slice_index v.ends.items k) × (slice_index v.ends.items k ≤ length v.roots.items)
    ends-there = end-within (length v.roots.items) 0 v.ends.items holds.ends k end-there

    pub stream-there : (start end : ℕ) → start ≡ slice_index (0 ∷ v.ends.items) k → end ≡ slice_index v.ends.items k → slice_get f.streams k ≡ Some (numbers (slice_range v.roots.items start end))
    stream-there start end a b =
        ap (λ z. slice_get z.streams k) (sym is)
        ∙ (cut-at (numbers v.roots.items) 0 v.ends.items k end-there
        ∙ ap Some ((λ z. slice_range (numbers v.roots.items) (sym a z) (sym b z)) ∙ sym (range-map (λ (i : NodeId). i.0) v.roots.items start end)))

  module _ (i : ℕ) (l : i < count f) where
    pub among : i < length v.nodes.items
    among = omega (arith, l, ap (λ z. length z.nodes) is, length-map v.nodes.items (held_in v))

    pub ranked-there : i < length v.ranks.items
    ranked-there = omega (arith, l, ap (λ z. length z.nodes) is, holds.ranked.long)

    pub rank-there : (r d : ℕ) → r ≡ get_or v.ranks.items i d → r ≡ rank f i
    rank-there r d e = e ∙ (get_or-any v.ranks.items i d 0 ranked-there ∙ ap (λ z. rank z i) is)

    -- ---- one node

    module _ (n : Node) (e : n ≡ get_or v.nodes.items i n) where
      pub there : slice_get v.nodes.items i ≡ Some n
      there = get-there v.nodes.items i n among ∙ ap Some (sym e)

      pub height-there : n.height ≡ height (tree f i)
      height-there =
          let m = holds.sound.measured i n there in
          let low = holds.ranked.low i (omega (arith, among, length-map v.nodes.items (held_in v))) in
          let q : n.height ≡ height (tree (forests_of v) i) = omega arith in
          q ∙ ap (λ z. height (tree z i)) is

      pub tag-within : n.tag < length v.tags
      tag-within = (holds.sound.placed i n there).2

      pub place-within : Within (length (text_of v.text)) (length v.items.items) (length v.entries.items) (place_of n)
      place-within =
          let p = holds.sound.placed i n there in
          let a : length (numbers v.items.items) ≡ length v.items.items = length-map v.items.items (λ (q : NodeId). q.0) in
          let b : length (number_pairs v.entries.items) ≡ length v.entries.items = pairs-long v.entries.items in
          let w = within-from (length (text_of v.text)) (length (numbers v.items.items)) (length (number_pairs v.entries.items)) (place_of n) p.0 p.1 in
          subst (λ z. Within (length (text_of v.text)) (length v.items.items) z (place_of n)) b (subst (λ z. Within (length (text_of v.text)) z (length (number_pairs v.entries.items)) (place_of n)) a w)

      pub content-text : (p : Span) → Scalar p ≡ place_of n → IsUtf8 (slice_range (text_of v.text) p.start p.end)
      content-text p b = subst (λ q. IsText (inside_in v q)) (sym b) (holds.sound.texts i n there)

      pub content-whole : (p : Span) → Scalar p ≡ place_of n → IsWhole (border v.text) p
      content-whole p b = subst (PlaceWhole (border v.text)) (sym b) (holds.whole i n there)

      held-at : slice_get f.nodes i ≡ Some (held_in v n)
      held-at = ap (λ z. slice_get z.nodes i) (sym is) ∙ get-map (held_in v) v.nodes.items i n there

      -- what is held there
      pub held-there : (g : List ℕ) (x : view.Inside) → g ≡ tag_at v.tags n.tag → x ≡ inside_in v (place_of n) → slice_get f.nodes i ≡ Some (g, x)
      held-there g x p q = held-at ∙ ap Some (λ z. (sym p z, sym q z))

      -- ---- entries

      entries-are : entries_at f i ≡ entries_in (inside_in v (place_of n))
      entries-are = ap entries_held held-at

      pub no-place : ((p : Span) → place_of n ≡ Mapping p → ⊥) → (wanted : ℕ) → IsPlaceOf (rank f) (entries_at f i) wanted None
      no-place none wanted k p h r = by (place_of n) none (subst (λ z. slice_get z k ≡ Some p) entries-are h)
        where
          by : (q : Place) → ((s : Span) → q ≡ Mapping s → ⊥) → slice_get (entries_in (inside_in v q)) k ≡ Some p → ⊥
          by (Scalar s) m g = absurd (cc)
          by (Sequence s) m g = absurd (cc)
          by (Mapping s) m g = m s refl

      -- a node with entries is a mapping
      pub mapping-from : (k : ℕ) → k < length (entries_at f i) → place_of n ≡ Mapping n.span
      mapping-from k h = by n.kind (subst (λ z. k < length z) entries-are h)
        where
          by : (kind : Kind) → k < length (entries_in (inside_in v (place kind n.span))) → place kind n.span ≡ Mapping n.span
          by kinds.Scalar m = absurd (omega arith)
          by kinds.Sequence m = absurd (omega arith)
          by kinds.Mapping m = refl

      module _ (p : Span) (at : place_of n ≡ Mapping p) where
        abbrev part : List (ℕ × ℕ)
        part = slice_range (number_pairs v.entries.items) p.start p.end

        abbrev places : List ℕ
        places = slice_range v.order.items p.start p.end

        pub span-within : SpanWithin (length v.entries.items) p
        span-within = subst (Within (length (text_of v.text)) (length v.items.items) (length v.entries.items)) at place-within

        pub order-within : SpanWithin (length v.order.items) p
        order-within = let b = span-within.1 in (span-within.0, omega (arith, b, holds.ordered.long, pairs-long v.entries.items))

        pub order-there : IsOrder (slice_index v.ranks.items) part places
        order-there = holds.ordered.ordered i p among (n, there, at)

        pub keys-below : All (λ (q : ℕ × ℕ). q.0 < length v.ranks.items) part
        keys-below k d m =
            let b = (subst (InsideBelow i) (ap (inside_of [] (numbers v.items.items) (number_pairs v.entries.items)) at) (holds.sound.below i n there)).1 k d m in
            let a = b.0 in
            let r = ranked-there in
            omega arith

        pub part-is : entries_at f i ≡ part
        part-is = entries-are ∙ ap (λ z. entries_in (inside_in v z)) at

        -- what is found among the ranks is found among the nodes
        pub found-there : (wanted : ℕ) (o : Option ℕ) → IsPlaceOf (slice_index v.ranks.items) part wanted o → IsPlaceOf (rank f) (entries_at f i) wanted o
        found-there wanted o h = subst (λ z. IsPlaceOf (slice_index z) (entries_at f i) wanted o) (ap (λ z. z.ranks) is) (subst (λ z. IsPlaceOf (slice_index v.ranks.items) z wanted o) (sym part-is) h)

        -- the same of lists that are borrowed
        module _ (es : List (NodeId × NodeId)) (order rs : List ℕ) (es-are : es ≡ v.entries.items) (order-is : order ≡ v.order.items) (rs-are : rs ≡ v.ranks.items) where
          abbrev near : List (ℕ × ℕ)
          near = number_pairs (slice_range es p.start p.end)

          near-is : near ≡ part
          near-is = ap (λ z. number_pairs (slice_range z p.start p.end)) es-are ∙ range-map (λ (q : NodeId × NodeId). (q.0.0, q.1.0)) v.entries.items p.start p.end

          pub near-ordered : IsOrder (slice_index rs) near (slice_range order p.start p.end)
          near-ordered =
              subst (λ z. IsOrder (slice_index z) near (slice_range order p.start p.end)) (sym rs-are)
              (subst (λ z. IsOrder (slice_index v.ranks.items) near (slice_range z p.start p.end)) (sym order-is) (subst (λ z. IsOrder (slice_index v.ranks.items) z places) (sym near-is) order-there))

          pub near-below : All (λ (q : NodeId × NodeId). q.0.0 < length rs) (slice_range es p.start p.end)
          near-below =
              unmap (λ (q : NodeId × NodeId). (q.0.0, q.1.0)) (λ (q : ℕ × ℕ). q.0 < length rs) (slice_range es p.start p.end)
              (subst (λ z. All (λ (q : ℕ × ℕ). q.0 < length z) near) (sym rs-are) (subst (All (λ (q : ℕ × ℕ). q.0 < length v.ranks.items)) (sym near-is) keys-below))

          pub near-found : (wanted : ℕ) (o : Option ℕ) → IsPlaceOf (slice_index rs) near wanted o → IsPlaceOf (rank f) (entries_at f i) wanted o
          near-found wanted o h = found-there wanted o (subst (λ z. IsPlaceOf (slice_index v.ranks.items) z wanted o) near-is (subst (λ z. IsPlaceOf (slice_index z) near wanted o) rs-are h))

        module _ (k : ℕ) (few : k < length (entries_at f i)) where
          part-long : length part ≡ p.end - p.start
          part-long = let b = span-within.1 in length-between (number_pairs v.entries.items) p.start p.end (omega (arith, b, pairs-long v.entries.items))

          pub place-near : p.start + k < p.end
          place-near = omega (arith, few, ap length part-is, part-long)

          pub place-there : p.start + k < length v.order.items
          place-there = let b = order-within.1 in omega (arith, b, place-near)

          abbrev at-order : ℕ
          at-order = slice_index places k

          order-is : (w d : ℕ) → w ≡ get_or v.order.items (p.start + k) d → w ≡ at-order
          order-is w d q = q ∙ (get_or-any v.order.items (p.start + k) d 0 place-there ∙ sym (get_or-between v.order.items p.start p.end k 0 place-near))

          order-low : at-order < length part
          order-low = order-there.within k 0 (omega (arith, order-there.count, few, ap length part-is))

          pub entry-near : (w d : ℕ) → w ≡ get_or v.order.items (p.start + k) d → p.start + w < p.end
          entry-near w d q = omega (arith, order-is w d q, order-low, part-long)

          pub entry-there : (w d : ℕ) → w ≡ get_or v.order.items (p.start + k) d → p.start + w < length v.entries.items
          entry-there w d q = let b = span-within.1 in omega (arith, b, entry-near w d q)

          -- the entry at this place in order
          pub entry-shown : (w d : ℕ) → w ≡ get_or v.order.items (p.start + k) d → (r c : NodeId × NodeId) → r ≡ get_or v.entries.items (p.start + w) c
              → (other : List (ℕ × ℕ)) → InKeyOrder (rank f) (entries_at f i) other → slice_get other k ≡ Some (r.0.0, r.1.0)
          entry-shown w d q r c g other o =
              let o2 : InKeyOrder (slice_index v.ranks.items) part other = subst (λ z. InKeyOrder (slice_index z) part other) (sym (ap (λ z. z.ranks) is)) (subst (λ z. InKeyOrder (rank f) z other) part-is o) in
              let pairs = number_pairs v.entries.items in
              let x : entry_at part at-order ≡ get_or pairs (p.start + w) (0, 0) = ap (entry_at part) (sym (order-is w d q)) ∙ get_or-between pairs p.start p.end w (0, 0) (entry-near w d q) in
              let y : get_or pairs (p.start + w) (0, 0) ≡ (r.0.0, r.1.0) = get_or-map (λ (z : NodeId × NodeId). (z.0.0, z.1.0)) v.entries.items (p.start + w) c (0, 0) (entry-there w d q) ∙ ap (λ (z : NodeId × NodeId). (z.0.0, z.1.0)) (sym g) in
              entry-is (slice_index v.ranks.items) part places order-there k (omega (arith, few, ap length part-is)) other o2 ∙ ap Some (x ∙ y)
