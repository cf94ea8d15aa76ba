-- Entries in the order of their keys.
use Rattle.std.proofs.Common.{◌≡◌, ◌⊎◌, inl, inr, ℕ, zero, suc, ◌+◌, ◌-◌, ◌<◌, ◌≤◌, List, [], ◌∷◌, ◌++◌, length, map, take, drop, set, get_or, slice_index, add-one, refl, sym, ◌∙◌, ap, subst, arith}
use Rattle.std.specs.Prelude.{Some}
use Rattle.std.specs.List.{slice_get, slice_range, All}
use Rattle.std.proofs.Math.Seq.{take-suc}
use Rattle.std.proofs.lemmas.List.{length-map, map-append, take-map, drop-map, take_all, drop_all, append-nil}
use Rattle.std.proofs.lemmas.List.Elements.{All-map}
use Rattle.std.proofs.lemmas.Option.{get_or_from_slice_get}
use Rattle.yaml_tree.specs.Places.{at, InOrder}
use Rattle.yaml_tree.proofs.Lists.{get_or-any, get_or-map, get-map, Has, contains-has, has-contains}
use Rattle.yaml_tree.proofs.Numbers.{below_or}
use Rattle.yaml_tree.proofs.Numbering.{get-there, get-within}
use Rattle.yaml_store_rank.specs.PartsModel.{Differ}
use Rattle.yaml_store_rank.specs.Forests.{InKeyOrder, IsPlaceOf}
use Rattle.yaml_tree.specs.declared.node.NodeId.{NodeId}
use Rattle.yaml_store_rank.specs.KeyOrder.{number_pairs, entry_at, ranks_of_keys, IsOrder}

-- ---- lists that are copied and overwritten

pub copied-more : {X Y : Type 0} (f : Y → X) (xs : List X) (ys new : List Y) (k : ℕ) (y : Y) (d : X) → k < length xs → map f ys ≡ take k xs → f y ≡ get_or xs k d → new ≡ ys ++ (y ∷ []) → map f new ≡ take (k + 1) xs
copied-more f xs ys new k y d l h e n =
    let t : take (k + 1) xs ≡ take k xs ++ (get_or xs k d ∷ []) = ap (λ m. take m xs) (add-one k) ∙ take-suc xs k d l in
    ap (map f) n ∙ (map-append f ys (y ∷ []) ∙ ((λ z. h z ++ (e z ∷ [])) ∙ sym t))

put-step : {X Y : Type 0} (f : X → Y) (xs : List X) (old : List Y) (i : ℕ) (d : X) (y : Y) → i < length xs → length old ≡ length xs → y ≡ f (get_or xs i d) → set (map f (take i xs) ++ drop i old) i y ≡ map f (take (suc i) xs) ++ drop (suc i) old
put-step f [] old i d y l q e = absurd (omega arith)
put-step f (x ∷ xs) [] i d y l q e = absurd (omega arith)
put-step f (x ∷ xs) (o ∷ old) zero d y l q e = ap (λ z. z ∷ old) e
put-step f (x ∷ xs) (o ∷ old) (suc i) d y l q e = ap (λ zs. f x ∷ zs) (put-step f xs old i d y (omega arith) (omega arith) e)

pub put-more : {X Y : Type 0} (f : X → Y) (xs : List X) (old now : List Y) (i : ℕ) (d : X) (y : Y) → i < length xs → length old ≡ length xs → now ≡ map f (take i xs) ++ drop i old → y ≡ f (get_or xs i d) → set now i y ≡ map f (take (i + 1) xs) ++ drop (i + 1) old
put-more f xs old now i d y l q e h =
    ap (λ z. set z i y) e ∙ (put-step f xs old i d y l q h ∙ (λ z. map f (take (sym (add-one i) z) xs) ++ drop (sym (add-one i) z) old))

pub put-all : {X Y : Type 0} (f : X → Y) (xs : List X) (old : List Y) (i : ℕ) → length xs ≤ i → length old ≡ length xs → map f (take i xs) ++ drop i old ≡ map f xs
put-all f xs old i l q = (λ z. map f (take_all i xs l z) ++ drop_all i old (omega arith) z) ∙ append-nil (map f xs)

-- a range of what is made of a list
pub range-map : {X Y : Type 0} (f : X → Y) (xs : List X) (a b : ℕ) → map f (slice_range xs a b) ≡ slice_range (map f xs) a b
range-map f xs a b = sym (take-map f (b - a) (drop a xs)) ∙ ap (take (b - a)) (sym (drop-map f a xs))

-- what holds of all that is made of a list
pub unmap : {X Y : Type 0} (f : X → Y) (P : Y → Type 0) (xs : List X) → All P (map f xs) → All (λ x. P (f x)) xs
unmap f P [] a k d l = absurd (omega arith)
unmap f P (x ∷ xs) a zero d l = a 0 (f x) (omega arith)
unmap f P (x ∷ xs) a (suc k) d l = unmap f P xs (λ j e m. a (suc j) e (omega arith)) k d (omega arith)

-- ---- one order of entries

abbrev Up : (ℕ → ℕ) → List (ℕ × ℕ) → Type 0
Up rank [] = Unit {0}
Up rank (p ∷ ps) = ((q : ℕ × ℕ) → Has q ps → rank p.0 < rank q.0) × Up rank ps

up-from : (rank : ℕ → ℕ) (qs : List (ℕ × ℕ)) → ((j k : ℕ) (d : ℕ × ℕ) → j < k → k < length qs → rank (get_or qs j d).0 < rank (get_or qs k d).0) → Up rank qs
up-from rank [] f = tt
up-from rank (p ∷ qs) f =
    (λ q m. let c = has-contains qs q m in subst (λ (z : ℕ × ℕ). rank p.0 < rank z.0) c.2 (f 0 (suc c.0) q (omega arith) (omega (arith, c.1))), up-from rank qs (λ j k d l o. f (suc j) (suc k) d (omega arith) (omega arith)))

one : (rank : ℕ → ℕ) (xs ys : List (ℕ × ℕ)) → Up rank xs → Up rank ys → ((p : ℕ × ℕ) → Has p xs → Has p ys) → ((p : ℕ × ℕ) → Has p ys → Has p xs) → xs ≡ ys
one rank [] [] a b f g = refl
one rank [] (y ∷ ys) a b f g = absurd (g y (inl refl))
one rank (x ∷ xs) [] a b f g = absurd (f x (inl refl))
one rank (x ∷ xs) (y ∷ ys) a b f g = λ z. head z ∷ one rank xs ys a.1 b.1 forth back z
  where
    first : (x ≡ y) ⊎ Has x ys → (y ≡ x) ⊎ Has y xs → x ≡ y
    first (inl e) h = e
    first (inr h) (inl e) = sym e
    first (inr h) (inr k) = let p = b.0 x h in let q = a.0 y k in absurd (omega arith)

    head : x ≡ y
    head = first (f x (inl refl)) (g y (inl refl))

    forth : (p : ℕ × ℕ) → Has p xs → Has p ys
    forth p h = by (f p (inr h))
      where
        by : (p ≡ y) ⊎ Has p ys → Has p ys
        by (inl e) = let w = a.0 p h in let q : rank p.0 ≡ rank x.0 = ap (λ (z : ℕ × ℕ). rank z.0) (e ∙ sym head) in absurd (omega arith)
        by (inr k) = k

    back : (p : ℕ × ℕ) → Has p ys → Has p xs
    back p h = by (g p (inr h))
      where
        by : (p ≡ x) ⊎ Has p xs → Has p xs
        by (inl e) = let w = b.0 p h in let q : rank p.0 ≡ rank y.0 = ap (λ (z : ℕ × ℕ). rank z.0) (e ∙ head) in absurd (omega arith)
        by (inr k) = k

pub one-order : (rank : ℕ → ℕ) (es xs ys : List (ℕ × ℕ)) → InKeyOrder rank es xs → InKeyOrder rank es ys → xs ≡ ys
one-order rank es xs ys a b =
    one rank xs ys (up-from rank xs a.rises) (up-from rank ys b.rises) (λ p h. contains-has ys p (b.whole p (a.sound p (has-contains xs p h)))) (λ p h. contains-has xs p (a.whole p (b.sound p (has-contains ys p h))))

module _ (rank : ℕ → ℕ) (es : List (ℕ × ℕ)) where
  abbrev values : List ℕ
  values = ranks_of_keys rank es

  long : length values ≡ length es
  long = length-map es (λ p. rank p.0)

  pub value-at : (i : ℕ) → i < length es → slice_index values i ≡ rank (entry_at es i).0
  value-at i l = get_or-map (λ p. rank p.0) es i (0, 0) 0 l

  -- ---- the places of sorted keys

  module _ (order : List (ℕ × ℕ)) (is : InOrder values order) (differ : Differ values) where
    abbrev made : List ℕ
    made = map (λ p. p.1) order

    made-long : length made ≡ length order
    made-long = length-map order (λ p. p.1)

    value-of : (k : ℕ) → k < length order → ((at order k).1 < length es) × (rank (entry_at es (slice_index made k)).0 ≡ (at order k).0)
    value-of k l =
        let s = is.sound k (0, 0) l in
        let w : (at order k).1 < length es = omega (arith, s.0, long) in
        (w, ap (λ z. rank (entry_at es z).0) (get_or-map (λ p. p.1) order k (0, 0) 0 l) ∙ (sym (value-at (at order k).1 w) ∙ sym s.1))

    pub order-from : IsOrder rank es made
    order-from = record {
      count = made-long ∙ (is.count ∙ long);
      within = All-map (λ k. k < length es) (λ p. p.1) order (λ k d l. let s = is.sound k d l in omega (arith, s.0, long));
      whole = λ i l.
          let c = is.whole i (omega (arith, long)) in
          (c.0, omega (arith, c.1, made-long), get_or-map (λ p. p.1) order c.0 (slice_index values i, i) i c.1 ∙ ap (λ (p : ℕ × ℕ). p.1) c.2);
      rises = rises;
    }
      where
        rises : (j k : ℕ) → j < k → k < length made → rank (entry_at es (slice_index made j)).0 < rank (entry_at es (slice_index made k)).0
        rises j k l m = by (is.rises j k l n)
          where
            n : k < length order
            n = omega (arith, m, made-long)

            o : j < length order
            o = omega (arith, l, n)

            by : ((at order j).0 < (at order k).0) ⊎ (((at order j).0 ≡ (at order k).0) × ((at order j).1 < (at order k).1)) → rank (entry_at es (slice_index made j)).0 < rank (entry_at es (slice_index made k)).0
            by (inl h) = let u = (value-of j o).1 in let v = (value-of k n).1 in omega arith
            by (inr h) = absurd (differ (at order j).1 (at order k).1 h.1 (omega (arith, (value-of k n).0, long)) (sym (is.sound j (0, 0) o).1 ∙ (h.0 ∙ (is.sound k (0, 0) n).1)))

  -- ---- entries by their places

  module _ (order : List ℕ) (is : IsOrder rank es order) where
    abbrev pub sorted : List (ℕ × ℕ)
    sorted = map (entry_at es) order

    sorted-long : length sorted ≡ length order
    sorted-long = length-map order (entry_at es)

    at-place : (k : ℕ) (d : ℕ × ℕ) → k < length order → get_or sorted k d ≡ entry_at es (slice_index order k)
    at-place k d l = get_or-map (entry_at es) order k 0 d l

    pub sorted-from : InKeyOrder rank es sorted
    sorted-from = record {
      count = sorted-long ∙ is.count;
      sound = λ p c.
          let l : c.0 < length order = omega (arith, c.1, sorted-long) in
          let w = is.within c.0 0 l in
          (slice_index order c.0, w, get_or-any es (slice_index order c.0) p (0, 0) w ∙ (sym (at-place c.0 p l) ∙ c.2));
      whole = λ p c.
          let w = is.whole c.0 c.1 in
          (w.0, omega (arith, w.1, sorted-long), at-place w.0 p w.1 ∙ (ap (entry_at es) (get_or-any order w.0 0 c.0 w.1 ∙ w.2) ∙ (get_or-any es c.0 (0, 0) p c.1 ∙ c.2)));
      rises = λ j k d l m.
          let n : k < length order = omega (arith, m, sorted-long) in
          let o : j < length order = omega arith in
          subst (λ (z : ℕ × ℕ). rank z.0 < rank (get_or sorted k d).0) (sym (at-place j d o)) (subst (λ (z : ℕ × ℕ). rank (entry_at es (slice_index order j)).0 < rank z.0) (sym (at-place k d n)) (is.rises j k l n));
    }

    -- what stands at a place in order
    pub entry-is : (k : ℕ) → k < length es → (other : List (ℕ × ℕ)) → InKeyOrder rank es other → slice_get other k ≡ Some (entry_at es (slice_index order k))
    entry-is k l other o =
        subst (λ z. slice_get z k ≡ Some (entry_at es (slice_index order k))) (one-order rank es sorted other sorted-from o) (get-map (entry_at es) order k (slice_index order k) (get-there order k 0 (omega (arith, l, is.count))))

    -- a place of this rank
    pub place-found : (k wanted : ℕ) → k < length order → rank (entry_at es (slice_index order k)).0 ≡ wanted → IsPlaceOf rank es wanted (Some (slice_index order k))
    place-found k wanted l e = (entry_at es (slice_index order k), get-there es (slice_index order k) (0, 0) (is.within k 0 l), e)

    -- places up to one that is too low, and from one on that is too high
    pub low-upto : (m wanted : ℕ) → m < length order → rank (entry_at es (slice_index order m)).0 < wanted → (k : ℕ) → k < m + 1 → rank (entry_at es (slice_index order k)).0 < wanted
    low-upto m wanted l h k n = by (below_or k m)
      where
        by : (k < m) ⊎ (m ≤ k) → rank (entry_at es (slice_index order k)).0 < wanted
        by (inl a) = let r = is.rises k m a l in omega arith
        by (inr a) = let q : m ≡ k = omega arith in subst (λ z. rank (entry_at es (slice_index order z)).0 < wanted) q h

    pub high-from : (m wanted : ℕ) → wanted < rank (entry_at es (slice_index order m)).0 → (k : ℕ) → m ≤ k → k < length order → wanted < rank (entry_at es (slice_index order k)).0
    high-from m wanted h k n l = by (below_or m k)
      where
        by : (m < k) ⊎ (k ≤ m) → wanted < rank (entry_at es (slice_index order k)).0
        by (inl a) = let r = is.rises m k a l in omega arith
        by (inr a) = let q : m ≡ k = omega arith in subst (λ z. wanted < rank (entry_at es (slice_index order z)).0) q h

    -- no place of this rank is left
    pub none-left : (low high wanted : ℕ) → high ≤ low → ((k : ℕ) → k < low → rank (entry_at es (slice_index order k)).0 < wanted) → ((k : ℕ) → high ≤ k → k < length order → wanted < rank (entry_at es (slice_index order k)).0) → (k : ℕ) (p : ℕ × ℕ) → slice_get es k ≡ Some p → rank p.0 ≡ wanted → ⊥
    none-left low high wanted h below above k p e r =
        let c = is.whole k (get-within es k p e) in
        let q : slice_index order c.0 ≡ k = get_or-any order c.0 0 k c.1 ∙ c.2 in
        let m : rank (entry_at es (slice_index order c.0)).0 ≡ wanted = ap (λ z. rank (entry_at es z).0) q ∙ (ap (λ (z : ℕ × ℕ). rank z.0) (get_or_from_slice_get es k p (0, 0) e) ∙ r) in
        elim (below_or c.0 low) [
          | inl a ↦ (let b = below c.0 a in omega arith)
          | inr a ↦ (let b = above c.0 (omega arith) c.1 in omega arith)
        ]

-- ---- the ranks of keys

pub pairs-long : (es : List (NodeId × NodeId)) → length (number_pairs es) ≡ length es
pairs-long es = length-map es (λ p. (p.0.0, p.1.0))

pub key-ranks-long : (ranks : List ℕ) (es : List (NodeId × NodeId)) → length (ranks_of_keys (slice_index ranks) (number_pairs es)) ≡ length es
key-ranks-long ranks es = length-map (number_pairs es) (λ p. slice_index ranks p.0) ∙ pairs-long es

-- the rank of the key of an entry
pub entry-rank : (ranks : List ℕ) (es : List (NodeId × NodeId)) (k : ℕ) (d : NodeId × NodeId) → k < length es → slice_index ranks (entry_at (number_pairs es) k).0 ≡ slice_index ranks (get_or es k d).0.0
entry-rank ranks es k d l = ap (λ (z : ℕ × ℕ). slice_index ranks z.0) (get_or-map (λ (p : NodeId × NodeId). (p.0.0, p.1.0)) es k d (0, 0) l)
