-- A node whose parts are overwritten by their ranks.
use Rattle.std.proofs.Common.{◌≡◌, ℕ, zero, suc, ◌<◌, ◌≤◌, Bool, true, false, List, [], ◌∷◌, length, map, set, get_or, refl, sym, ◌∙◌, ap, subst, arith}
use Rattle.std.specs.List.{All, swap}
use Rattle.std.specs.List.Sorted.{IsPermutation}
use Rattle.std.specs.declared.cmp.Ordering.{Ordering}
use Rattle.std.specs.declared.cmp.Ordering.TheVariants.{Less, Equal, Greater}
use Rattle.std.specs.Ordering.{nat_cmp, is_eq, ordering_reverse}
use Rattle.std.proofs.lemmas.Cmp.{nat_cmp_total, tied_itself}
use Rattle.std.proofs.lemmas.List.{length-map}
use Rattle.std.proofs.lemmas.List.Sorted.{IsPermutation-refl, IsPermutation-sym, IsPermutation-keeps, IsPermutation-swap, IsPermutation-trans, Contains-permutation, All-permutation}
use Rattle.std.proofs.lemmas.Map.Keys.{IsDistinct-from_apart, IsDistinct-IsPermutation, apart_from_distinct}
use Rattle.yaml_definitions.specs.model.Tree.{Tree, scalar, sequence, mapping, height, heights, heights_of_pairs}
use Rattle.yaml_definitions.specs.model.Order.{arranged}
use Rattle.yaml_definitions.specs.model.Same.{keyed, keyed_trees}
use Rattle.yaml_definitions.proofs.Members.{both_and}
use Rattle.yaml_tree.specs.TreeLists.{trees, pairs}
use Rattle.yaml_tree.specs.View.{View, Inside, content, items, entries, inside_tree, InsideBelow, Lower, Ranks}
use Rattle.yaml_tree.proofs.Numbers.{cmp-less}
use Rattle.yaml_tree.proofs.Lists.{contains-has, has-contains, Has}
use Rattle.yaml_tree.proofs.RankOrder.{AllLow, PairsLow, Rising, Distinct, low-in, arranged-items, keyed-entries, entries-arranged}
use Rattle.yaml_store_rank.specs.KeyModel.{RanksFit}
use Rattle.yaml_store_rank.specs.PartsModel.{two_ranks, KeysRise, PartsRanked}

-- ---- lists that are put in order after a map

map-set : {X Y : Type 0} (f : X → Y) (xs : List X) (i : ℕ) (x : X) → map f (set xs i x) ≡ set (map f xs) i (f x)
map-set f [] i x = refl
map-set f (y ∷ xs) zero x = refl
map-set f (y ∷ xs) (suc i) x = ap (λ z. f y ∷ z) (map-set f xs i x)

map-get : {X Y : Type 0} (f : X → Y) (xs : List X) (i : ℕ) (d : X) → get_or (map f xs) i (f d) ≡ f (get_or xs i d)
map-get f [] i d = refl
map-get f (y ∷ xs) zero d = refl
map-get f (y ∷ xs) (suc i) d = map-get f xs i d

map-swap : {X Y : Type 0} (f : X → Y) (xs : List X) (i j : ℕ) → swap (map f xs) i j ≡ map f (swap xs i j)
map-swap f [] i j = refl
map-swap f (x ∷ xs) i j =
    (λ z. set (set (map f (x ∷ xs)) i (map-get f (x ∷ xs) j x z)) j (map-get f (x ∷ xs) i x z))
    ∙ (ap (λ z. set z j (f (get_or (x ∷ xs) i x))) (sym (map-set f (x ∷ xs) i (get_or (x ∷ xs) j x))) ∙ sym (map-set f (set (x ∷ xs) i (get_or (x ∷ xs) j x)) j (get_or (x ∷ xs) i x)))

-- another order of what a map gives is what it gives of another order
pub permuted-map : {X Y : Type 0} (f : X → Y) (xs : List X) (ys : List Y) → IsPermutation (map f xs) ys → (zs : List X) × IsPermutation xs zs × (ys ≡ map f zs)
permuted-map {X} {Y} f xs ys p = IsPermutation-keeps (map f xs) (λ l. (zs : List X) × IsPermutation xs zs × (l ≡ map f zs)) (xs, IsPermutation-refl xs, refl) step ys p
  where
    step : (l : List Y) (i j : ℕ) → i < length l → j < length l → (zs : List X) × IsPermutation xs zs × (l ≡ map f zs) → (zs : List X) × IsPermutation xs zs × (swap l i j ≡ map f zs)
    step l i j a b w =
        let n : length l ≡ length w.0 = ap length w.2 ∙ length-map w.0 f in
        (swap w.0 i j, IsPermutation-trans xs w.0 (swap w.0 i j) w.1 (IsPermutation-swap w.0 (swap w.0 i j) i j (omega arith) (omega arith) refl), ap (λ z. swap z i j) w.2 ∙ map-swap f w.0 i j)

module _ (v : View) (rank : ℕ → ℕ) (h : ℕ) (right : Ranks v rank h) where
  abbrev pub Low : ℕ → Type 0
  Low i = Lower v h i

  abbrev pub LowItems : List ℕ → Type 0
  LowItems is = AllLow v.tree rank Low right.agrees is

  abbrev pub LowPairs : List (ℕ × ℕ) → Type 0
  LowPairs es = PairsLow v.tree rank Low right.agrees es

  abbrev two : ℕ × ℕ → Tree × Tree
  two p = (v.tree p.0, v.tree p.1)

  abbrev two_arranged : ℕ × ℕ → Tree × Tree
  two_arranged p = (arranged (v.tree p.0), arranged (v.tree p.1))

  -- parts are lower than what they stand in
  pub items-low : (m : ℕ) (is : List ℕ) → m < v.count → All (λ i. i < m) is → heights (trees (map v.tree is)) ≤ h → LowItems is
  items-low m [] c a l = tt
  items-low m (i ∷ is) c a l = let b = a 0 i (omega arith) in ((omega arith, omega arith), items-low m is c (λ k d o. a (suc k) d (omega arith)) (omega arith))

  pub pairs-all : (m : ℕ) (es : List (ℕ × ℕ)) → m < v.count → All (λ p. (p.0 < m) × (p.1 < m)) es → heights_of_pairs (pairs (map two es)) ≤ h → All (λ p. Low p.0 × Low p.1) es
  pairs-all m [] c a l k d o = absurd (omega arith)
  pairs-all m (p ∷ es) c a l zero d o = let b = a 0 p (omega arith) in let x = b.0 in let y = b.1 in ((omega arith, omega arith), (omega arith, omega arith))
  pairs-all m (p ∷ es) c a l (suc k) d o = pairs-all m es c (λ j e n. a (suc j) e (omega arith)) (omega arith) k d (omega arith)

  pub pairs-low : (es : List (ℕ × ℕ)) → All (λ p. Low p.0 × Low p.1) es → LowPairs es
  pairs-low [] a = tt
  pairs-low (p ∷ es) a = (a 0 p (omega arith), pairs-low es (λ k d l. a (suc k) d (omega arith)))

  items-keyed : (is : List ℕ) → LowItems is → keyed_trees (trees (map v.tree is)) ≡ true
  items-keyed [] a = refl
  items-keyed (i ∷ is) a = both_and (keyed (v.tree i)) (keyed_trees (trees (map v.tree is))) (right.keyed i a.0) (items-keyed is a.1)

  rising-from : (qs : List (ℕ × ℕ)) → ((j k : ℕ) (d : ℕ × ℕ) → j < k → k < length qs → rank (get_or qs j d).0 < rank (get_or qs k d).0) → Rising v.tree rank Low right.agrees qs
  rising-from [] f = tt
  rising-from (p ∷ qs) f =
      (λ q m. let c = has-contains qs q m in subst (λ z. rank p.0 < rank z.0) c.2 (f 0 (suc c.0) q (omega arith) (omega (arith, c.1))), rising-from qs (λ j k d l o. f (suc j) (suc k) d (omega arith) (omega arith)))

  same_key : ℕ × ℕ → ℕ × ℕ → Bool
  same_key p q = is_eq (nat_cmp (rank p.0) (rank q.0))

  flips : (p q : ℕ × ℕ) → same_key p q ≡ same_key q p
  unfolding same_key
  flips p q = ap is_eq (nat_cmp_total.antisymm (rank p.0) (rank q.0)) ∙ turn (nat_cmp (rank q.0) (rank p.0))
    where
      turn : (o : Ordering) → is_eq (ordering_reverse o) ≡ is_eq o
      turn Less = refl
      turn Equal = refl
      turn Greater = refl

  distinct-from : (ps : List (ℕ × ℕ)) → ((j k : ℕ) (d : ℕ × ℕ) → j < k → k < length ps → same_key (get_or ps j d) (get_or ps k d) ≡ false) → Distinct v.tree rank Low right.agrees ps
  unfolding same_key
  distinct-from [] f = tt
  distinct-from (p ∷ ps) f = (
    λ q m e.
        let c = has-contains ps q m in
        let a : is_eq (nat_cmp (rank p.0) (rank q.0)) ≡ false = subst (λ z. is_eq (nat_cmp (rank p.0) (rank z.0)) ≡ false) c.2 (f 0 (suc c.0) q (omega arith) (omega (arith, c.1))) in
        let b : is_eq (nat_cmp (rank p.0) (rank q.0)) ≡ true = ap is_eq (subst (λ z. nat_cmp (rank p.0) z ≡ Equal) e (tied_itself nat_cmp_total (rank p.0))) in
        let w : true ≡ false = sym b ∙ a in
        absurd (cc),
    distinct-from ps (λ j k d l o. f (suc j) (suc k) d (omega arith) (omega arith)),
  )

  -- the tree of a node, arranged, has this tag, and these are the ranks of its parts
  abbrev pub Fitted : List ℕ → Inside → Tree → Type 0
  Fitted g (content x) t = t ≡ scalar g x
  Fitted g (items rs) t = (is : List ℕ) × LowItems is × (t ≡ sequence g (trees (map (λ i. arranged (v.tree i)) is))) × (rs ≡ map rank is)
  Fitted g (entries rs) t = (qs : List (ℕ × ℕ)) × LowPairs qs × (t ≡ mapping g (pairs (map two_arranged qs))) × (rs ≡ map (two_ranks rank) qs)

  module _ (g : List ℕ) (m : ℕ) (within : m < v.count) (t : Tree) where
    items-fitted : (is rs : List ℕ) → t ≡ sequence g (trees (map v.tree is)) → All (λ i. i < m) is → height t ≤ h → rs ≡ map rank is → (keyed t ≡ true) × Fitted g (items rs) (arranged t)
    unfolding arranged
    items-fitted is rs e a l q =
        let f : height t ≡ heights (trees (map v.tree is)) = ap height e in
        let low = items-low m is within a (omega arith) in
        (ap keyed e ∙ items-keyed is low, (is, low, ap arranged e ∙ ap (sequence g) (arranged-items v.tree is), q))

    entries-fitted : (es rs : List (ℕ × ℕ)) → t ≡ mapping g (pairs (map two es)) → All (λ p. (p.0 < m) × (p.1 < m)) es → height t ≤ h → IsPermutation (map (two_ranks rank) es) rs → KeysRise rs → (keyed t ≡ true) × Fitted g (entries rs) (arranged t)
    unfolding arranged same_key
    entries-fitted es rs e a l p rise =
        let f : height t ≡ heights_of_pairs (pairs (map two es)) = ap height e in
        let low = pairs-all m es within a (omega arith) in
        let w = permuted-map (two_ranks rank) es rs p in
        let qs = w.0 in
        let lows = pairs-low qs (All-permutation (λ p. Low p.0 × Low p.1) es qs w.1 low) in
        let up : (j k : ℕ) (d : ℕ × ℕ) → j < k → k < length qs → rank (get_or qs j d).0 < rank (get_or qs k d).0 = λ j k d l o.
        let n : length rs ≡ length qs = ap length w.2 ∙ length-map qs (two_ranks rank) in
        let r = rise j k (two_ranks rank d) l (omega arith) in
        let x : get_or rs j (two_ranks rank d) ≡ two_ranks rank (get_or qs j d) = ap (λ z. get_or z j (two_ranks rank d)) w.2 ∙ map-get (two_ranks rank) qs j d in
        let y : get_or rs k (two_ranks rank d) ≡ two_ranks rank (get_or qs k d) = ap (λ z. get_or z k (two_ranks rank d)) w.2 ∙ map-get (two_ranks rank) qs k d in
        subst (λ (z : ℕ × ℕ). z.0 < rank (get_or qs k d).0) x (subst (λ (z : ℕ × ℕ). (get_or rs j (two_ranks rank d)).0 < z.0) y r) in
        let apart = IsDistinct-IsPermutation same_key flips qs es (IsPermutation-sym es qs w.1) (IsDistinct-from_apart same_key qs (λ i j d l o. ap is_eq (cmp-less (rank (get_or qs i d).0) (rank (get_or qs j d).0) (up i j d l o)))) in
        let to : (p : ℕ × ℕ) → Has p es → Has p qs = λ p i. contains-has qs p (Contains-permutation es qs p w.1 (has-contains es p i)) in
        let from : (p : ℕ × ℕ) → Has p qs → Has p es = λ p i. contains-has es p (Contains-permutation qs es p (IsPermutation-sym es qs w.1) (has-contains qs p i)) in
        let ks = keyed-entries v.tree rank Low right.agrees es (pairs-low es low) (λ p i. let c = low-in v.tree rank Low right.agrees p es (pairs-low es low) i in (right.keyed p.0 c.0, right.keyed p.1 c.1)) (distinct-from es (λ j k d l o. apart_from_distinct same_key es j k d apart l o)) in
        (ap keyed e ∙ ks, (qs, lows, ap arranged e ∙ ap (mapping g) (entries-arranged v.tree rank Low right.agrees es qs ks lows (rising-from qs up) to from), w.2))

  -- a node of at most this height whose parts are overwritten
  pub node-fitted : (i : ℕ) → i < v.count → height (v.tree i) ≤ h → (new : Inside) → PartsRanked rank (v.inside i) new → (keyed (v.tree i) ≡ true) × Fitted (v.tag i) new (arranged (v.tree i))
  unfolding arranged
  node-fitted i within l new p = by (v.inside i) new (v.made i within) (v.below i within) p
    where
      by : (old new : Inside) → v.tree i ≡ inside_tree v.tree (v.tag i) old → InsideBelow i old → PartsRanked rank old new → (keyed (v.tree i) ≡ true) × Fitted (v.tag i) new (arranged (v.tree i))
      by (content x) (content y) e b p = (ap keyed e, ap arranged e ∙ ap (scalar (v.tag i)) (sym p))
      by (items is) (items rs) e b p = items-fitted (v.tag i) i within (v.tree i) is rs e b.0 l p
      by (entries es) (entries rs) e b p = entries-fitted (v.tag i) i within (v.tree i) es rs e b.1 l p.0 p.1
      by (content x) (items rs) e b p = absurd p
      by (content x) (entries rs) e b p = absurd p
      by (items is) (content y) e b p = absurd p
      by (items is) (entries rs) e b p = absurd p
      by (entries es) (content y) e b p = absurd p
      by (entries es) (items rs) e b p = absurd p

  -- ranks that leave room
  pub ranks-fit : (g : List ℕ) (new : Inside) (t : Tree) → ((i : ℕ) → Low i → rank i < 4294967295) → Fitted g new t → RanksFit new
  ranks-fit g (content x) t room f = tt
  ranks-fit g (items rs) t room f = subst (All (λ r. r < 4294967295)) (sym f.3) (fits f.0 f.1)
    where
      fits : (is : List ℕ) → LowItems is → All (λ r. r < 4294967295) (map rank is)
      fits [] a k d l = absurd (omega arith)
      fits (i ∷ is) a zero d l = room i a.0
      fits (i ∷ is) a (suc k) d l = fits is a.1 k d (omega arith)
  ranks-fit g (entries rs) t room f = subst (All (λ (p : ℕ × ℕ). (p.0 < 4294967295) × (p.1 < 4294967295))) (sym f.3) (fits f.0 f.1)
    where
      fits : (qs : List (ℕ × ℕ)) → LowPairs qs → All (λ (p : ℕ × ℕ). (p.0 < 4294967295) × (p.1 < 4294967295)) (map (two_ranks rank) qs)
      fits [] a k d l = absurd (omega arith)
      fits (p ∷ qs) a zero d l = (room p.0 a.0.0, room p.1 a.0.1)
      fits (p ∷ qs) a (suc k) d l = fits qs a.1 k d (omega arith)
