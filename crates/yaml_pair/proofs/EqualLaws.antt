-- Equal items, by their ranks.
use Rattle.std.proofs.Common.{◌≡◌, ℕ, zero, suc, ◌+◌, ◌<◌, ◌≤◌, Bool, true, false, cond, ◌&&◌, ◌==◌, List, [], ◌∷◌, length, map, take, inl, inr, refl, sym, ◌∙◌, ap, subst, eq-eqb, arith}
use Rattle.std.specs.Prelude.{Option, Some, None, count_by, bytes_eq}
use Rattle.std.specs.List.{slice_get}
use Rattle.std.proofs.lemmas.Bool.{eqb-true}
use Rattle.std.proofs.lemmas.Option.{slice_get_within, get_or_from_slice_get}
use Rattle.std.proofs.lemmas.List.{take-map, take-take, length-map}
use Rattle.std.proofs.lemmas.List.Sums.{sum_by-cons, sum_by-take-le, count_by_more_yes}
use Rattle.yaml_definitions.specs.model.Tree.{Tree}
use Rattle.yaml_definitions.specs.model.Same.{same}
use Rattle.yaml_store_rank.specs.Forests.{Forests, count, tree, rank, item_trees, IsRanked}
use Rattle.yaml_tree.specs.declared.node.NodeId.{NodeId}
use Rattle.yaml_tree.proofs.Lists.{get-map, get-unmap}
use Rattle.yaml_pair.specs.declared.partners.Partners.{Partners}
use Rattle.yaml_pair.specs.Names.{EqualPair}
use Rattle.yaml_pair.specs.Named.{AllWithin, Within, AreRanks, Name, is_one, IsCount, AreCounts, LoneNames, OnlyFree, JoinsTo, IsNone, HasPairs, EqualPairs}
use Rattle.yaml_pair.proofs.ColumnLaws.{below-or}
use Rattle.yaml_pair.proofs.Parts.{some-is, free-not}
use Rattle.yaml_pair.proofs.NameLaws.{equal_if_any, one-parts, ranks-same}

-- ---- names that are one

and-both : (a b : Bool) → (a && b) ≡ true → (a ≡ true) × (b ≡ true)
and-both true b e = (refl, e)
and-both false b e = absurd (cc)

both-and : (a b : Bool) → a ≡ true → b ≡ true → (a && b) ≡ true
both-and a b e f = ap (λ z. z && b) e ∙ f

any-same : (x y : Option ℕ) → equal_if_any x y ≡ true → x ≡ y
any-same None None e = refl
any-same None (Some y) e = absurd (cc)
any-same (Some x) None e = absurd (cc)
any-same (Some x) (Some y) e = ap Some (eqb-true x y e)

same-any : (x : Option ℕ) → equal_if_any x x ≡ true
same-any None = refl
same-any (Some x) = eq-eqb x x refl

one-same : (n m : Name) → is_one n m ≡ true → (n.1 ≡ m.1) × (n.2 ≡ m.2) × (n.3 ≡ m.3)
one-same n m e =
    let a = and-both (bytes_eq n.0.now m.0.now) ((n.1 == m.1) && (equal_if_any n.2 m.2 && (n.3 == m.3))) (sym (one-parts n m) ∙ e) in
    let b = and-both (n.1 == m.1) (equal_if_any n.2 m.2 && (n.3 == m.3)) a.1 in
    let c = and-both (equal_if_any n.2 m.2) (n.3 == m.3) b.1 in
    (eqb-true n.1 m.1 b.0, any-same n.2 m.2 c.0, eqb-true n.3 m.3 c.1)

same-one : (n m : Name) → n.0.now ≡ [] → m.0.now ≡ [] → n.1 ≡ m.1 → n.2 ≡ m.2 → n.3 ≡ m.3 → is_one n m ≡ true
same-one n m a b c d e =
    one-parts n m
    ∙ ap (λ z. bytes_eq z m.0.now && ((n.1 == m.1) && (equal_if_any n.2 m.2 && (n.3 == m.3)))) a
    ∙ ap (λ z. bytes_eq [] z && ((n.1 == m.1) && (equal_if_any n.2 m.2 && (n.3 == m.3)))) b
    ∙ both-and (n.1 == m.1) (equal_if_any n.2 m.2 && (n.3 == m.3)) (eq-eqb n.1 m.1 c)
    (both-and (equal_if_any n.2 m.2) (n.3 == m.3) (ap (equal_if_any n.2) (sym d) ∙ same-any n.2) (eq-eqb n.3 m.3 e))

-- ---- counts

get-take : {X : Type 0} (n : ℕ) (xs : List X) (k : ℕ) (x : X) → slice_get (take n xs) k ≡ Some x → slice_get xs k ≡ Some x
get-take zero xs k x e = absurd (cc)
get-take (suc n) [] k x e = absurd (cc)
get-take (suc n) (y ∷ xs) zero x e = e
get-take (suc n) (y ∷ xs) (suc k) x e = get-take n xs k x e

count-less : {X : Type 0} (p : X → Bool) (xs : List X) (a b : ℕ) (x : X) → a < b → slice_get xs a ≡ Some x → p x ≡ true → count_by p (take a xs) < count_by p (take b xs)
count-less p xs a b x l e h =
    let w = slice_get_within xs a x e in
    let one = count_by_more_yes p xs a x w (ap p (get_or_from_slice_get xs a x x e) ∙ h) in
    let le = sum_by-take-le (λ y. cond (p y) 1 0) (take b xs) (a + 1) in
    let tt' : take (a + 1) (take b xs) ≡ take (a + 1) xs = take-take (a + 1) b xs (omega (arith, l)) in
    let le' : count_by p (take (a + 1) xs) ≤ count_by p (take b xs) = subst (λ z. count_by p z ≤ count_by p (take b xs)) tt' le in
    omega (arith, one, le')

count-one : {X : Type 0} (p : X → Bool) (xs : List X) (a b : ℕ) (x y : X) → slice_get xs a ≡ Some x → slice_get xs b ≡ Some y → p x ≡ true → p y ≡ true → count_by p (take a xs) ≡ count_by p (take b xs) → a ≡ b
count-one p xs a b x y e f g h q = elim (below-or a b) [
  | inl l ↦ let z = count-less p xs a b x l e g in absurd (omega (arith, z, q))
  | inr s ↦ elim s [
    | inl l ↦ let z = count-less p xs b a y l f h in absurd (omega (arith, z, q))
    | inr e ↦ e
  ]
]

module _ (g : Forests) (ranked : IsRanked g) where
  abbrev ranks : List NodeId → List ℕ
  ranks items = map (λ i. rank g i.0) items

  abbrev trees_of : List NodeId → List Tree
  trees_of items = item_trees g items

  count-same : (i : ℕ) → i < count g → (items : List NodeId) → AllWithin g items → count_by (λ x. x == rank g i) (ranks items) ≡ count_by (λ t. same t (tree g i)) (trees_of items)
  count-same i l [] w = refl
  count-same i l (y ∷ ys) w =
      let s : (rank g y.0 == rank g i) ≡ same (tree g y.0) (tree g i) = ranks-same g ranked y.0 i (w 0 y refl) l in
      sum_by-cons (λ x. cond (x == rank g i) 1 0) (rank g y.0) (ranks ys)
      ∙ ap (λ b. cond b 1 0 + count_by (λ x. x == rank g i) (ranks ys)) s
      ∙ ap (λ n. cond (same (tree g y.0) (tree g i)) 1 0 + n) (count-same i l ys (λ k z e. w (suc k) z e))
      ∙ sym (sum_by-cons (λ t. cond (same t (tree g i)) 1 0) (tree g y.0) (trees_of ys))

  -- how many of the items before a place are equal to one
  count-before : (i k : ℕ) → i < count g → (items : List NodeId) → AllWithin g items → count_by (λ x. x == rank g i) (take k (ranks items)) ≡ count_by (λ t. same t (tree g i)) (take k (trees_of items))
  count-before i k l items w =
      ap (count_by (λ x. x == rank g i)) (take-map (λ (j : NodeId). rank g j.0) k items)
      ∙ count-same i l (take k items) (λ j x e. w j x (get-take k items j x e))
      ∙ sym (ap (count_by (λ t. same t (tree g i))) (take-map (λ (j : NodeId). tree g j.0) k items))

  module _ (ls rs : List NodeId) (within : Within g ls rs) (nl nr : List (Option Name)) (left : AreCounts (ranks ls) nl (length (ranks ls))) (right : AreCounts (ranks rs) nr (length (ranks rs))) where
    -- a name of these, by its place
    is-count : (items : List NodeId) (names : List (Option Name)) → AreCounts (ranks items) names (length (ranks items)) → (j : ℕ) (n : Name) → slice_get names j ≡ Some (Some n) → IsCount (ranks items) j n
    is-count items names are j n e =
        let x = are.1 j (let w = slice_get_within names j (Some n) e in omega (arith, w, are.0)) in
        subst (IsCount (ranks items) j) (some-is (some-is (sym x.1 ∙ e))) x.2

    equal-to : (j k : ℕ) → LoneNames is_one nl nr j k → EqualPair (trees_of ls) (trees_of rs) j k
    equal-to j k x =
        let a = is-count ls nl left j x.left x.left_is in
        let b = is-count rs nr right k x.right x.right_is in
        let i = get-unmap (λ (i : NodeId). rank g i.0) ls j x.left.1 a.is in
        let h = get-unmap (λ (i : NodeId). rank g i.0) rs k x.right.1 b.is in
        let s = one-same x.right x.left x.alike in
        let il = within.0 j i.0 i.1 in
        let hl = within.1 k h.0 h.1 in
        let q : x.left.1 ≡ rank g i.0.0 = sym i.2 in
        let p : x.right.1 ≡ rank g i.0.0 = s.0 ∙ q in
        let often : count_by (λ y. y == rank g i.0.0) (ranks rs) ≡ count_by (λ y. y == rank g i.0.0) (ranks ls) =
        some-is (ap (λ z. Some (count_by (λ y. y == z) (ranks rs))) (sym p) ∙ sym b.often ∙ s.1 ∙ a.often ∙ ap (λ z. Some (count_by (λ y. y == z) (ranks ls))) q) in
        let before : count_by (λ y. y == rank g i.0.0) (take k (ranks rs)) ≡ count_by (λ y. y == rank g i.0.0) (take j (ranks ls)) =
        ap (λ z. count_by (λ y. y == z) (take k (ranks rs))) (sym p) ∙ sym b.before ∙ s.2 ∙ a.before ∙ ap (λ z. count_by (λ y. y == z) (take j (ranks ls))) q in
        record {
          left = tree g i.0.0;
          right = tree g h.0.0;
          left_is = get-map (λ (i : NodeId). tree g i.0) ls j i.0 i.1;
          right_is = get-map (λ (i : NodeId). tree g i.0) rs k h.0 h.1;
          equal = sym (ranks-same g ranked h.0.0 i.0.0 hl il) ∙ eq-eqb (rank g h.0.0) (rank g i.0.0) (h.2 ∙ p);
          often = sym (count-same i.0.0 il rs within.1) ∙ often ∙ count-same i.0.0 il ls within.0;
          before = sym (count-before i.0.0 k il rs within.1) ∙ before ∙ count-before i.0.0 j il ls within.0;
        }

    equal-from : (j k : ℕ) → EqualPair (trees_of ls) (trees_of rs) j k → LoneNames is_one nl nr j k
    equal-from j k y =
        let i = get-unmap (λ (i : NodeId). tree g i.0) ls j y.left y.left_is in
        let h = get-unmap (λ (i : NodeId). tree g i.0) rs k y.right y.right_is in
        let jl = slice_get_within ls j i.0 i.1 in
        let kl = slice_get_within rs k h.0 h.1 in
        let il = within.0 j i.0 i.1 in
        let hl = within.1 k h.0 h.1 in
        let a = left.1 j (omega (arith, jl, length-map ls (λ (i : NodeId). rank g i.0))) in
        let b = right.1 k (omega (arith, kl, length-map rs (λ (i : NodeId). rank g i.0))) in
        let n = a.0 in
        let m = b.0 in
        let p : n.1 ≡ rank g i.0.0 = some-is (sym a.2.is ∙ get-map (λ (i : NodeId). rank g i.0) ls j i.0 i.1) in
        let q : m.1 ≡ rank g h.0.0 = some-is (sym b.2.is ∙ get-map (λ (i : NodeId). rank g i.0) rs k h.0 h.1) in
        let e : rank g h.0.0 ≡ rank g i.0.0 = eqb-true (rank g h.0.0) (rank g i.0.0) (ranks-same g ranked h.0.0 i.0.0 hl il ∙ ap (λ z. same z (tree g i.0.0)) h.2 ∙ ap (same y.right) i.2 ∙ y.equal) in
        let often : count_by (λ x. x == rank g i.0.0) (ranks rs) ≡ count_by (λ x. x == rank g i.0.0) (ranks ls) =
        count-same i.0.0 il rs within.1 ∙ subst (λ z. count_by (λ t. same t z) (trees_of rs) ≡ count_by (λ t. same t z) (trees_of ls)) (sym i.2) y.often ∙ sym (count-same i.0.0 il ls within.0) in
        let before : count_by (λ x. x == rank g i.0.0) (take k (ranks rs)) ≡ count_by (λ x. x == rank g i.0.0) (take j (ranks ls)) =
        count-before i.0.0 k il rs within.1 ∙ subst (λ z. count_by (λ t. same t z) (take k (trees_of rs)) ≡ count_by (λ t. same t z) (take j (trees_of ls))) (sym i.2) y.before ∙ sym (count-before i.0.0 j il ls within.0) in
        let alike : is_one m n ≡ true = same-one m n b.2.bare a.2.bare (q ∙ e ∙ sym p)
        (b.2.often ∙ ap (λ z. Some (count_by (λ x. x == z) (ranks rs))) (q ∙ e) ∙ ap Some often ∙ ap (λ z. Some (count_by (λ x. x == z) (ranks ls))) (sym p) ∙ sym a.2.often)
        (b.2.before ∙ ap (λ z. count_by (λ x. x == z) (take k (ranks rs))) (q ∙ e) ∙ before ∙ ap (λ z. count_by (λ x. x == z) (take j (ranks ls))) (sym p) ∙ sym a.2.before) in
        record {
          left = n;
          right = m;
          left_is = a.1;
          right_is = b.1;
          alike = alike;
          left_lone = λ c o f s. one-place ls nl left c j o n f a.1 (one-same o n s);
          right_lone = λ c o f s. let u = one-same o n s in let v = one-same m n alike in one-place rs nr right c k o m f b.1 (u.0 ∙ sym v.0, u.1 ∙ sym v.1, u.2 ∙ sym v.2);
        }
      where
        one-place : (items : List NodeId) (names : List (Option Name)) → AreCounts (ranks items) names (length (ranks items)) → (c d : ℕ) (o n : Name) → slice_get names c ≡ Some (Some o) → slice_get names d ≡ Some (Some n)
            → (o.1 ≡ n.1) × (o.2 ≡ n.2) × (o.3 ≡ n.3) → c ≡ d
        one-place items names are c d o n f h s =
            let a = is-count items names are c o f in
            let b = is-count items names are d n h in
            count-one (λ x. x == n.1) (ranks items) c d o.1 n.1 a.is b.is (eq-eqb o.1 n.1 s.0) (eq-eqb n.1 n.1 refl) (ap (λ z. count_by (λ x. x == z) (take c (ranks items))) (sym s.0) ∙ sym a.before ∙ s.2 ∙ b.before)

-- names stand where nothing is a pair yet
pub counts-free : (ranks : List ℕ) (names : List (Option Name)) (places : List (Option ℕ)) (n : ℕ) → AreCounts ranks names (length ranks) → length ranks ≡ n → ((k : ℕ) → k < n → slice_get places k ≡ Some None) → OnlyFree names places
counts-free ranks names places n are e f k m g = f k (let w = slice_get_within names k (Some m) g in omega (arith, w, are.0, e))

-- equal items are the pairs
pub has-equal : (g : Forests) → IsRanked g → (ls rs : List NodeId) → Within g ls rs → (old new : Partners) → IsNone old (length ls) (length rs) → (rl rr : List ℕ) → AreRanks g ls rl → AreRanks g rs rr
    → (nl nr : List (Option Name)) → AreCounts rl nl (length rl) → AreCounts rr nr (length rr) → JoinsTo nl nr (length nl) old new → HasPairs new (length ls) (length rs) (EqualPairs g ls rs)
has-equal g ranked ls rs within old new none rl rr al ar nl nr cl cr jn = record {
  lefts_len = jn.lefts_len ∙ none.lefts_len;
  rights_len = jn.rights_len ∙ none.rights_len;
  left = λ j k. (
    λ p. elim ((jn.left j k).0 p) [ inl a ↦ absurd (free-not old.lefts.items j j k refl (none.left j (let w = slice_get_within old.lefts.items j (Some k) a in omega (arith, w, none.lefts_len))) a) | inr l ↦ equal-to g ranked ls rs within nl nr dl dr j k l.1 ],
    λ y. (jn.left j k).1 (inr (inside j k (equal-from g ranked ls rs within nl nr dl dr j k y))),
  );
  right = λ j k. (
    λ p. elim ((jn.right j k).0 p) [ inl a ↦ absurd (free-not old.rights.items k k j refl (none.right k (let w = slice_get_within old.rights.items k (Some j) a in omega (arith, w, none.rights_len))) a) | inr l ↦ equal-to g ranked ls rs within nl nr dl dr j k l.1 ],
    λ y. (jn.right j k).1 (inr (inside j k (equal-from g ranked ls rs within nl nr dl dr j k y))),
  );
}
  where
    dl : AreCounts (map (λ i. rank g i.0) ls) nl (length (map (λ i. rank g i.0) ls))
    dl = subst (λ z. AreCounts z nl (length z)) (al.1 within.0) cl

    dr : AreCounts (map (λ i. rank g i.0) rs) nr (length (map (λ i. rank g i.0) rs))
    dr = subst (λ z. AreCounts z nr (length z)) (ar.1 within.1) cr

    inside : (j k : ℕ) → LoneNames is_one nl nr j k → (j < length nl) × LoneNames is_one nl nr j k
    inside j k x = (slice_get_within nl j (Some x.left) x.left_is, x)
