-- Pairs that names make, one left place after the other.
use Rattle.std.proofs.Common.{◌≡◌, ◌≢◌, ℕ, ◌+◌, ◌<◌, ◌⊎◌, List, length, set, inl, inr, refl, sym, ◌∙◌, ap, subst, arith}
use Rattle.std.specs.Prelude.{Option, Some, None}
use Rattle.std.specs.List.{slice_get}
use Rattle.std.proofs.lemmas.Option.{slice_get_within}
use Rattle.std.proofs.lemmas.List.{length-set}
use Rattle.yaml_pair.specs.declared.partners.Partners.{Partners}
use Rattle.yaml_pair.specs.Named.{Name, is_one, LoneNames, Partner, OnlyFree, Keeps, Takes, JoinsTo}
use Rattle.yaml_pair.proofs.ColumnLaws.{below-or}
use Rattle.yaml_pair.proofs.Parts.{some-is, less-or, set-here, set-there, free-from, free-not}
use Rattle.yaml_pair.proofs.NameLaws.{name_laws}
use Rattle.yaml_pair.proofs.PlaceLaws.{one-left, one-right}

same-or : (j i : ℕ) → (j ≡ i) ⊎ (j ≢ i)
same-or j i = elim (below-or j i) [ inl l ↦ inr (λ e. absurd (omega (arith, l, e))) | inr x ↦ elim x [ inl l ↦ inr (λ e. absurd (omega (arith, l, e))) | inr e ↦ inl e ] ]

-- ---- a place that gets a partner

module _ (xs : List (Option ℕ)) (i r : ℕ) (free : slice_get xs i ≡ Some None) where
  pub set-from : (j k : ℕ) → Partner (set xs i (Some r)) j k → (Partner xs j k) ⊎ ((j ≡ i) × (k ≡ r))
  set-from j k p = elim (same-or j i) [
    | inl e ↦ inr (e, some-is (some-is (sym p ∙ ap (slice_get (set xs i (Some r))) e ∙ set-here xs i (Some r) (slice_get_within xs i None free))))
    | inr n ↦ inl (sym (set-there xs i j (Some r) n) ∙ p)
  ]

  pub set-kept : (j k : ℕ) → Partner xs j k → Partner (set xs i (Some r)) j k
  set-kept j k p = set-there xs i j (Some r) (λ e. free-not xs j i k e free p) ∙ p

  pub set-new : Partner (set xs i (Some r)) i r
  set-new = set-here xs i (Some r) (slice_get_within xs i None free)

pub keeps-same : (p : Partners) → Keeps p p
keeps-same p = record { lefts_len = refl; rights_len = refl; left = λ j k h. h; right = λ j k h. h; agrees = λ h. h }

pub keeps-more : (p q r : Partners) → Keeps p q → Keeps q r → Keeps p r
keeps-more p q r a b = record {
  lefts_len = b.lefts_len ∙ a.lefts_len;
  rights_len = b.rights_len ∙ a.rights_len;
  left = λ j k h. b.left j k (a.left j k h);
  right = λ j k h. b.right j k (a.right j k h);
  agrees = λ h. b.agrees (a.agrees h);
}

pub takes-keeps : (old new : Partners) (i r : ℕ) → slice_get old.lefts.items i ≡ Some None → slice_get old.rights.items r ≡ Some None → Takes old new i r → Keeps old new
takes-keeps old new i r f h t = record {
  lefts_len = ap length t.lefts ∙ length-set old.lefts.items i (Some r);
  rights_len = ap length t.rights ∙ length-set old.rights.items r (Some i);
  left = λ j k p. subst (λ z. Partner z j k) (sym t.lefts) (set-kept old.lefts.items i r f j k p);
  right = λ j k p. subst (λ z. Partner z k j) (sym t.rights) (set-kept old.rights.items r i h k j p);
  agrees = λ c j k. (
    λ p. subst (λ z. Partner z k j) (sym t.rights) (elim (set-from old.lefts.items i r f j k (subst (λ z. Partner z j k) t.lefts p)) [
      | inl a ↦ set-kept old.rights.items r i h k j ((c j k).0 a)
      | inr e ↦ subst (λ z. Partner (set old.rights.items r (Some i)) k z) (sym e.0) (subst (λ z. Partner (set old.rights.items r (Some i)) z i) (sym e.1) (set-new old.rights.items r i h))
    ]),
    λ p. subst (λ z. Partner z j k) (sym t.lefts) (elim (set-from old.rights.items r i h k j (subst (λ z. Partner z k j) t.rights p)) [
      | inl a ↦ set-kept old.lefts.items i r f j k ((c j k).1 a)
      | inr e ↦ subst (λ z. Partner (set old.lefts.items i (Some r)) j z) (sym e.0) (subst (λ z. Partner (set old.lefts.items i (Some r)) z r) (sym e.1) (set-new old.lefts.items i r f))
    ]),
  );
}

-- ---- names that make pairs

module _ (lefts rights : List (Option Name)) (old : Partners) where
  abbrev Lone : ℕ → ℕ → Type 0
  Lone = LoneNames is_one lefts rights

  pub join-none : JoinsTo lefts rights 0 old old
  join-none = record {
    lefts_len = refl;
    rights_len = refl;
    left = λ j k. (λ p. inl p, λ x. elim x [ inl p ↦ p | inr l ↦ absurd (omega (arith, l.0)) ]);
    right = λ j k. (λ p. inl p, λ x. elim x [ inl p ↦ p | inr l ↦ absurd (omega (arith, l.0)) ]);
  }

  -- the name at this place makes no pair
  pub join-skip : (i : ℕ) (new : Partners) → ((k : ℕ) → Lone i k → ⊥) → JoinsTo lefts rights i old new → JoinsTo lefts rights (i + 1) old new
  join-skip i new never s = record {
    lefts_len = s.lefts_len;
    rights_len = s.rights_len;
    left = λ j k. (
      λ p. elim ((s.left j k).0 p) [ inl a ↦ inl a | inr l ↦ inr (omega (arith, l.0), l.1) ],
      λ x. elim x [ inl a ↦ (s.left j k).1 (inl a) | inr l ↦ (s.left j k).1 (inr (before j k l.0 l.1, l.1)) ],
    );
    right = λ j k. (
      λ p. elim ((s.right j k).0 p) [ inl a ↦ inl a | inr l ↦ inr (omega (arith, l.0), l.1) ],
      λ x. elim x [ inl a ↦ (s.right j k).1 (inl a) | inr l ↦ (s.right j k).1 (inr (before j k l.0 l.1, l.1)) ],
    );
  }
    where
      before : (j k : ℕ) → j < i + 1 → Lone j k → j < i
      before j k l x = elim (less-or j i l) [ inl a ↦ a | inr e ↦ absurd (never k (subst (λ z. Lone z k) e x)) ]

  module _ (free_left : OnlyFree lefts old.lefts.items) (free_right : OnlyFree rights old.rights.items) where
    -- the places of a pair are still free
    pub left-free : (i r : ℕ) (cur : Partners) → Lone i r → JoinsTo lefts rights i old cur → slice_get cur.lefts.items i ≡ Some None
    left-free i r cur x s =
        let f = free_left i x.left x.left_is in
        let w = slice_get_within old.lefts.items i None f in
        free-from cur.lefts.items i (omega (arith, w, s.lefts_len)) (λ k p. elim ((s.left i k).0 p) [ inl a ↦ free-not old.lefts.items i i k refl f a | inr l ↦ absurd (omega (arith, l.0)) ])

    pub right-free : (i r : ℕ) (cur : Partners) → Lone i r → JoinsTo lefts rights i old cur → slice_get cur.rights.items r ≡ Some None
    right-free i r cur x s =
        let f = free_right r x.right x.right_is in
        let w = slice_get_within old.rights.items r None f in
        free-from cur.rights.items r (omega (arith, w, s.rights_len)) (λ j p. elim ((s.right j r).0 p) [
          | inl a ↦ free-not old.rights.items r r j refl f a
          | inr l ↦ let e = one-left is_one name_laws lefts rights j i r l.1 x in absurd (omega (arith, l.0, e))
        ])

    -- the name at this place makes a pair, and its places are partners now
    pub join-take : (i r : ℕ) (cur new : Partners) → Lone i r → JoinsTo lefts rights i old cur → Takes cur new i r → JoinsTo lefts rights (i + 1) old new
    join-take i r cur new x s t = record {
      lefts_len = ap length t.lefts ∙ length-set cur.lefts.items i (Some r) ∙ s.lefts_len;
      rights_len = ap length t.rights ∙ length-set cur.rights.items r (Some i) ∙ s.rights_len;
      left = λ j k. (
        λ p. elim (set-from cur.lefts.items i r fl j k (subst (λ z. Partner z j k) t.lefts p)) [
          | inl a ↦ elim ((s.left j k).0 a) [ inl b ↦ inl b | inr l ↦ inr (omega (arith, l.0), l.1) ]
          | inr e ↦ inr (omega (arith, e.0), here j k e.0 e.1)
        ],
        λ y. subst (λ z. Partner z j k) (sym t.lefts) (elim y [
          | inl a ↦ set-kept cur.lefts.items i r fl j k ((s.left j k).1 (inl a))
          | inr l ↦ elim (less-or j i l.0) [
            | inl a ↦ set-kept cur.lefts.items i r fl j k ((s.left j k).1 (inr (a, l.1)))
            | inr e ↦ subst (λ z. Partner (set cur.lefts.items i (Some r)) z k) (sym e) (subst (λ z. Partner (set cur.lefts.items i (Some r)) i z) (one-right is_one name_laws lefts rights i r k x (subst (λ z. Lone z k) e l.1)) (set-new cur.lefts.items i r fl))
          ]
        ]),
      );
      right = λ j k. (
        λ p. elim (set-from cur.rights.items r i fr k j (subst (λ z. Partner z k j) t.rights p)) [
          | inl a ↦ elim ((s.right j k).0 a) [ inl b ↦ inl b | inr l ↦ inr (omega (arith, l.0), l.1) ]
          | inr e ↦ inr (omega (arith, e.1), here j k e.1 e.0)
        ],
        λ y. subst (λ z. Partner z k j) (sym t.rights) (elim y [
          | inl a ↦ set-kept cur.rights.items r i fr k j ((s.right j k).1 (inl a))
          | inr l ↦ elim (less-or j i l.0) [
            | inl a ↦ set-kept cur.rights.items r i fr k j ((s.right j k).1 (inr (a, l.1)))
            | inr e ↦ subst (λ z. Partner (set cur.rights.items r (Some i)) k z) (sym e) (subst (λ z. Partner (set cur.rights.items r (Some i)) z i) (one-right is_one name_laws lefts rights i r k x (subst (λ z. Lone z k) e l.1)) (set-new cur.rights.items r i fr))
          ]
        ]),
      );
    }
      where
        fl : slice_get cur.lefts.items i ≡ Some None
        fl = left-free i r cur x s

        fr : slice_get cur.rights.items r ≡ Some None
        fr = right-free i r cur x s

        here : (j k : ℕ) → j ≡ i → k ≡ r → Lone j k
        here j k e f = subst (λ z. Lone z k) (sym e) (subst (Lone i) (sym f) x)
