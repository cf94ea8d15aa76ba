-- Pairs of names, and the pairs of items that have them.
use Rattle.std.proofs.Common.{◌≡◌, ℕ, ◌<◌, true, false, ◌⊎◌, List, [], ◌∷◌, ◌++◌, length, inl, inr, refl, sym, ◌∙◌, ap, subst, arith}
use Rattle.std.specs.Prelude.{Option, Some, None}
use Rattle.std.specs.List.{slice_get}
use Rattle.std.proofs.lemmas.Option.{slice_get_within}
use Rattle.yaml_definitions.specs.model.Tree.{Tree}
use Rattle.yaml_store_rank.specs.Forests.{Forests, tree, item_trees, IsRanked}
use Rattle.yaml_tree.specs.declared.node.NodeId.{NodeId}
use Rattle.yaml_tree.proofs.Lists.{get-map, get-unmap}
use Rattle.yaml_pair.specs.declared.partners.Partners.{Partners}
use Rattle.yaml_pair.specs.Names.{Naming, same_name, LeftFree, RightFree, LonePair, NamedPairs}
use Rattle.yaml_pair.specs.Named.{AllWithin, Within, Name, is_one, IsName, AreNames, LoneNames, JoinsTo, HasPairs}
use Rattle.yaml_pair.proofs.Parts.{some-is, there, free-from, free-not}
use Rattle.yaml_pair.proofs.NameLaws.{one_name, name-same}

abbrev trees_of : Forests → List NodeId → List Tree
trees_of g items = item_trees g items

none-right : (o : Option Name) → one_name o None ≡ false
none-right None = refl
none-right (Some n) = refl

-- the names of the items of one side that are free
record Side (g : Forests) (c : Naming) (items : List NodeId) (names : List (Option Name)) (Free : ℕ → Type 0) : Type 0 where
  pub to_free : (j : ℕ) (n : Name) → slice_get names j ≡ Some (Some n) → Free j
  pub to : (j : ℕ) (n : Name) → slice_get names j ≡ Some (Some n) → (t : Tree) × (slice_get (trees_of g items) j ≡ Some t) × IsName g c t (Some n)
  pub from : (j : ℕ) (t : Tree) → slice_get (trees_of g items) j ≡ Some t → Free j → (o : Option Name) × (slice_get names j ≡ Some o) × IsName g c t o

side : (g : Forests) (c : Naming) (items : List NodeId) (places : List (Option ℕ)) (names : List (Option Name)) (Free : ℕ → Type 0)
    → AllWithin g items → AreNames g c items places names → ((j : ℕ) → slice_get places j ≡ Some None → Free j) → ((j : ℕ) → j < length items → Free j → slice_get places j ≡ Some None) → Side g c items names Free
side g c items places names Free within are to_free from_free = record {
  to_free = λ j n e. to_free j (are.only j n e);
  to = λ j n e.
      let o = are.only j n e in
      let w = slice_get_within names j (Some n) e in
      let x = there items j (omega (arith, w, are.long)) in
      let y = are.are j x.0 (slice_get_within items j x.0 x.1) x.1 o (within j x.0 x.1) in
      (tree g x.0.0, get-map (λ i. tree g i.0) items j x.0 x.1, subst (IsName g c (tree g x.0.0)) (some-is (sym y.1 ∙ e)) y.2);
  from = λ j t e f.
      let x = get-unmap (λ i. tree g i.0) items j t e in
      let y = are.are j x.0 (slice_get_within items j x.0 x.1) x.1 (from_free j (slice_get_within items j x.0 x.1) f) (within j x.0 x.1) in
      (y.0, y.1, subst (λ z. IsName g c z y.0) x.2 y.2);
}

module _ (g : Forests) (ranked : IsRanked g) (c : Naming) (ls rs : List NodeId) (nl nr : List (Option Name)) (P : ℕ → ℕ → Type 0) (left : Side g c ls nl (LeftFree P)) (right : Side g c rs nr (RightFree P)) where
  abbrev Made : ℕ → ℕ → Type 0
  Made = LonePair (same_name c) (trees_of g ls) (trees_of g rs) P

  -- an item that has the name of another is named
  named-as : (t u : Tree) (o : Option Name) (n : Name) → IsName g c t o → IsName g c u (Some n) → same_name c t u ≡ true → (m : Name) × (o ≡ Some m) × (is_one m n ≡ true)
  named-as t u None n a b s = let e = name-same g ranked c t u None (Some n) a b in let f : false ≡ true = e ∙ s in absurd (cc)
  named-as t u (Some m) n a b s = (m, refl, name-same g ranked c t u (Some m) (Some n) a b ∙ s)

  lone-to : (j k : ℕ) → LoneNames is_one nl nr j k → Made j k
  lone-to j k x =
      let a = left.to j x.left x.left_is in
      let b = right.to k x.right x.right_is in
      record {
        left = a.0;
        right = b.0;
        left_is = a.1;
        right_is = b.1;
        left_free = left.to_free j x.left x.left_is;
        right_free = right.to_free k x.right x.right_is;
        alike = sym (name-same g ranked c b.0 a.0 (Some x.right) (Some x.left) b.2 a.2) ∙ x.alike;
        left_lone = λ i t e f s. let o = left.from i t e f in let m = named-as t a.0 o.0 x.left o.2 a.2 s in x.left_lone i m.0 (o.1 ∙ ap Some m.1) m.2;
        right_lone = λ i t e f s. let o = right.from i t e f in let m = named-as t a.0 o.0 x.left o.2 a.2 s in x.right_lone i m.0 (o.1 ∙ ap Some m.1) m.2;
      }

  lone-from : (j k : ℕ) → Made j k → LoneNames is_one nl nr j k
  lone-from j k y =
      let a = left.from j y.left y.left_is y.left_free in
      let b = right.from k y.right y.right_is y.right_free in
      by a.0 b.0 a.1 b.1 a.2 b.2
    where
      alone : (i : ℕ) (t : Tree) (n m : Name) → IsName g c t (Some m) → IsName g c y.left (Some n) → is_one m n ≡ true → same_name c t y.left ≡ true
      alone i t n m a b s = sym (name-same g ranked c t y.left (Some m) (Some n) a b) ∙ s

      by : (o p : Option Name) → slice_get nl j ≡ Some o → slice_get nr k ≡ Some p → IsName g c y.left o → IsName g c y.right p → LoneNames is_one nl nr j k
      by None p e f a b = let h = name-same g ranked c y.right y.left p None b a in let z : false ≡ true = sym (none-right p) ∙ h ∙ y.alike in absurd (cc)
      by (Some n) None e f a b = let h = name-same g ranked c y.right y.left None (Some n) b a in let z : false ≡ true = h ∙ y.alike in absurd (cc)
      by (Some n) (Some m) e f a b = record {
        left = n;
        right = m;
        left_is = e;
        right_is = f;
        alike = name-same g ranked c y.right y.left (Some m) (Some n) b a ∙ y.alike;
        left_lone = λ i q h s. let t = left.to i q h in y.left_lone i t.0 t.1 (left.to_free i q h) (alone i t.0 n q t.2 a s);
        right_lone = λ i q h s. let t = right.to i q h in y.right_lone i t.0 t.1 (right.to_free i q h) (alone i t.0 n q t.2 a s);
      }

-- one naming more
pub has-named : (g : Forests) → IsRanked g → (ls rs : List NodeId) → Within g ls rs → (c : Naming) (cur new : Partners) (P : ℕ → ℕ → Type 0) → HasPairs cur (length ls) (length rs) P
    → (nl nr : List (Option Name)) → AreNames g c ls cur.lefts.items nl → AreNames g c rs cur.rights.items nr → JoinsTo nl nr (length nl) cur new
    → HasPairs new (length ls) (length rs) (λ j k. P j k ⊎ LonePair (same_name c) (trees_of g ls) (trees_of g rs) P j k)
has-named g ranked ls rs within c cur new P h nl nr al ar jn = record {
  lefts_len = jn.lefts_len ∙ h.lefts_len;
  rights_len = jn.rights_len ∙ h.rights_len;
  left = λ j k. (
    λ p. elim ((jn.left j k).0 p) [ inl a ↦ inl ((h.left j k).0 a) | inr l ↦ inr (lone-to g ranked c ls rs nl nr P sl sr j k l.1) ],
    λ x. (jn.left j k).1 (elim x [ inl a ↦ inl ((h.left j k).1 a) | inr m ↦ inr (inside j k (lone-from g ranked c ls rs nl nr P sl sr j k m)) ]),
  );
  right = λ j k. (
    λ p. elim ((jn.right j k).0 p) [ inl a ↦ inl ((h.right j k).0 a) | inr l ↦ inr (lone-to g ranked c ls rs nl nr P sl sr j k l.1) ],
    λ x. (jn.right j k).1 (elim x [ inl a ↦ inl ((h.right j k).1 a) | inr m ↦ inr (inside j k (lone-from g ranked c ls rs nl nr P sl sr j k m)) ]),
  );
}
  where
    sl : Side g c ls nl (LeftFree P)
    sl = side g c ls cur.lefts.items nl (LeftFree P) within.0 al
        (λ j e k p. free-not cur.lefts.items j j k refl e ((h.left j k).1 p))
        (λ j l f. free-from cur.lefts.items j (omega (arith, l, h.lefts_len)) (λ k p. f k ((h.left j k).0 p)))

    sr : Side g c rs nr (RightFree P)
    sr = side g c rs cur.rights.items nr (RightFree P) within.1 ar
        (λ k e j p. free-not cur.rights.items k k j refl e ((h.right j k).1 p))
        (λ k l f. free-from cur.rights.items k (omega (arith, l, h.rights_len)) (λ j p. f j ((h.right j k).0 p)))

    inside : (j k : ℕ) → LoneNames is_one nl nr j k → (j < length nl) × LoneNames is_one nl nr j k
    inside j k x = (slice_get_within nl j (Some x.left) x.left_is, x)

-- the last naming comes last
pub named-push : (ls rs : List Tree) (c : Naming) (p : Partners) (n m : ℕ) (cs : List Naming) (P : ℕ → ℕ → Type 0)
    → HasPairs p n m (λ j k. NamedPairs ls rs P cs j k ⊎ LonePair (same_name c) ls rs (NamedPairs ls rs P cs) j k) → HasPairs p n m (NamedPairs ls rs P (cs ++ (c ∷ [])))
named-push ls rs c p n m [] P h = h
named-push ls rs c p n m (d ∷ cs) P h = named-push ls rs c p n m cs (λ a b. P a b ⊎ LonePair (same_name d) ls rs P a b) h
