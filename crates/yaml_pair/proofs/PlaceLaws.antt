-- Places of names, one after the other.
use Rattle.std.proofs.Common.{◌≡◌, ℕ, ◌+◌, Bool, true, false, cond, List, length, ◌⊎◌, inl, inr, refl, sym, ◌∙◌, ap, subst, arith}
use Rattle.std.specs.Prelude.{Option, Some, None, is_some}
use Rattle.std.specs.List.{slice_get}
use Rattle.std.specs.Cmp.{IsEquivalence}
use Rattle.std.proofs.lemmas.Option.{slice_get_within}
use Rattle.yaml_pair.specs.Named.{Alone, Stands, LoneNames, flat, partner_in}
use Rattle.yaml_pair.proofs.Parts.{some-is, less-or}

module _ {N : Type 0} (one : N → N → Bool) (laws : IsEquivalence one) where
  both : (n m q : N) → one n q ≡ true → one m q ≡ true → one m n ≡ true
  both n m q e f = laws.symm m n ∙ laws.congr n q m e ∙ laws.symm q m ∙ f

  along : (m n q : N) → one m n ≡ true → one n q ≡ true → one m q ≡ true
  along m n q e f = laws.congr m n q e ∙ f

  module _ (names : List (Option N)) where
    pub stand-none : (q : N) → Stands one names 0 q None
    stand-none q k n l e f = absurd (omega (arith, l))

    -- the next name is not this one
    pub stand-skip : (i : ℕ) (q : N) (o : Option (Option ℕ)) → ((n : N) → slice_get names i ≡ Some (Some n) → one n q ≡ true → ⊥) → Stands one names i q o → Stands one names (i + 1) q o
    stand-skip i q None never s = λ k n l f g. elim (less-or k i l) [ inl a ↦ s k n a f g | inr a ↦ never n (ap (slice_get names) (sym a) ∙ f) g ]
    stand-skip i q (Some None) never s = record {
      first = s.first;
      second = s.second;
      first_name = s.first_name;
      second_name = s.second_name;
      apart = s.apart;
      within = omega (arith, s.within);
      first_is = s.first_is;
      first_one = s.first_one;
      second_is = s.second_is;
      second_one = s.second_one;
    }
    stand-skip i q (Some (Some p)) never s = record {
      within = omega (arith, s.within);
      name = s.name;
      is = s.is;
      alike = s.alike;
      lone = λ k n l f g. elim (less-or k i l) [ inl a ↦ s.lone k n a f g | inr a ↦ absurd (never n (ap (slice_get names) (sym a) ∙ f) g) ];
    }

    -- the next name is the first that is this one
    pub stand-first : (i : ℕ) (n q : N) → slice_get names i ≡ Some (Some n) → one n q ≡ true → Stands one names i n None → Stands one names (i + 1) q (Some (Some i))
    stand-first i n q e h s = record {
      within = omega arith;
      name = n;
      is = e;
      alike = h;
      lone = λ k m l f g. elim (less-or k i l) [ inl a ↦ absurd (s k m a f (both n m q h g)) | inr a ↦ a ];
    }

    -- the next name is this one, as one before it is
    pub stand-again : (i : ℕ) (n q : N) (o : Option ℕ) → slice_get names i ≡ Some (Some n) → one n q ≡ true → Stands one names i n (Some o) → Stands one names (i + 1) q (Some None)
    stand-again i n q None e h s = record {
      first = s.first;
      second = s.second;
      first_name = s.first_name;
      second_name = s.second_name;
      apart = s.apart;
      within = omega (arith, s.within);
      first_is = s.first_is;
      first_one = along s.first_name n q s.first_one h;
      second_is = s.second_is;
      second_one = along s.second_name n q s.second_one h;
    }
    stand-again i n q (Some p) e h s = record {
      first = p;
      second = i;
      first_name = s.name;
      second_name = n;
      apart = s.within;
      within = omega arith;
      first_is = s.is;
      first_one = along s.name n q s.alike h;
      second_is = e;
      second_one = h;
    }

    none-or-some : (o : Option (Option ℕ)) → (o ≡ None) ⊎ ((p : Option ℕ) × (o ≡ Some p))
    none-or-some None = inl refl
    none-or-some (Some p) = inr (p, refl)

    -- the next name is noted
    pub stand-noted : (i : ℕ) (n : N) (old new : N → Option (Option ℕ)) (alone : Option ℕ) → slice_get names i ≡ Some (Some n) → ((q : N) → Stands one names i q (old q)) → ((q : N) → new q ≡ cond (one n q) (Some alone) (old q))
        → (is_some (old n) ≡ true → alone ≡ None) → (is_some (old n) ≡ false → alone ≡ Some i) → (q : N) → Stands one names (i + 1) q (new q)
    stand-noted i n old new alone e s u known fresh q = by (one n q) refl (none-or-some (old n))
      where
        by : (b : Bool) → one n q ≡ b → (old n ≡ None) ⊎ ((p : Option ℕ) × (old n ≡ Some p)) → Stands one names (i + 1) q (new q)
        by false h x = subst (Stands one names (i + 1) q) (sym (u q ∙ ap (λ z. cond z (Some alone) (old q)) h))
            (stand-skip i q (old q) (λ m f g. let a : m ≡ n = some-is (some-is (sym f ∙ e)) in let b : true ≡ false = sym g ∙ ap (λ z. one z q) a ∙ h in absurd (cc)) (s q))
        by true h x = subst (Stands one names (i + 1) q) (sym (u q ∙ ap (λ z. cond z (Some alone) (old q)) h)) (elim x [
          | inl f ↦ subst (λ z. Stands one names (i + 1) q (Some z)) (sym (fresh (ap is_some f))) (stand-first i n q e h (subst (Stands one names i n) f (s n)))
          | inr p ↦ subst (λ z. Stands one names (i + 1) q (Some z)) (sym (known (ap is_some p.1))) (stand-again i n q p.0 e h (subst (Stands one names i n) p.1 (s n)))
        ])

    -- the one place of a name
    pub alone-from : (upto : ℕ) (q : N) (o : Option (Option ℕ)) (p : ℕ) → Stands one names upto q o → flat o ≡ Some p → Alone one names upto q p
    alone-from upto q None p s e = absurd (cc)
    alone-from upto q (Some None) p s e = absurd (cc)
    alone-from upto q (Some (Some x)) p s e = subst (Alone one names upto q) (some-is e) s

  module _ (lefts rights : List (Option N)) where
    -- a name that stands once in either list makes a pair
    pub lone-pair : (j p k : ℕ) (n : N) → slice_get lefts j ≡ Some (Some n) → Alone one lefts (length lefts) n p → Alone one rights (length rights) n k → LoneNames one lefts rights j k
    lone-pair j p k n e l r = record {
      left = n;
      right = r.name;
      left_is = e;
      right_is = r.is;
      alike = r.alike;
      left_lone = λ i m f g. l.lone i m (slice_get_within lefts i (Some m) f) f g ∙ sym (l.lone j n (slice_get_within lefts j (Some n) e) e (laws.refl n));
      right_lone = λ i m f g. r.lone i m (slice_get_within rights i (Some m) f) f g;
    }

    name-is : (j k : ℕ) (n : N) (x : LoneNames one lefts rights j k) → slice_get lefts j ≡ Some (Some n) → x.left ≡ n
    name-is j k n x e = some-is (some-is (sym x.left_is ∙ e))

    -- no other place is a pair with this one
    pub one-right : (j k i : ℕ) → LoneNames one lefts rights j k → LoneNames one lefts rights j i → k ≡ i
    one-right j k i x y = y.right_lone k x.right x.right_is (let e = name-is j k y.left x y.left_is in (ap (one x.right) (sym e)) ∙ x.alike)

    pub one-left : (j i k : ℕ) → LoneNames one lefts rights j k → LoneNames one lefts rights i k → j ≡ i
    one-left j i k x y =
        let e : x.right ≡ y.right = some-is (some-is (sym x.right_is ∙ y.right_is)) in
        let f : one x.right y.left ≡ true = ap (λ z. one z y.left) e ∙ y.alike in
        let g : one x.left y.left ≡ true = laws.congr x.left x.right y.left (laws.symm x.left x.right ∙ x.alike) ∙ f in
        y.left_lone j x.left x.left_is g

    -- of a pair, the left name stands once on the left, and on the right at the place of the pair
    pub pair-left : (j k : ℕ) (n : N) (o : Option (Option ℕ)) → LoneNames one lefts rights j k → slice_get lefts j ≡ Some (Some n) → Stands one lefts (length lefts) n o → (p : ℕ) × (o ≡ Some (Some p))
    pair-left j k n None x e s = absurd (s j n (slice_get_within lefts j (Some n) e) e (laws.refl n))
    pair-left j k n (Some None) x e s =
        let q = name-is j k n x e in
        let a = x.left_lone s.first s.first_name s.first_is (ap (one s.first_name) q ∙ s.first_one) in
        let b = x.left_lone s.second s.second_name s.second_is (ap (one s.second_name) q ∙ s.second_one) in
        absurd (omega (arith, a, b, s.apart))
    pair-left j k n (Some (Some p)) x e s = (p, refl)

    pub pair-right : (j k : ℕ) (n : N) (o : Option (Option ℕ)) → LoneNames one lefts rights j k → slice_get lefts j ≡ Some (Some n) → Stands one rights (length rights) n o → o ≡ Some (Some k)
    pair-right j k n None x e s = let q = name-is j k n x e in absurd (s k x.right (slice_get_within rights k (Some x.right) x.right_is) x.right_is (ap (one x.right) (sym q) ∙ x.alike))
    pair-right j k n (Some None) x e s =
        let q = name-is j k n x e in
        let a = x.right_lone s.first s.first_name s.first_is (ap (one s.first_name) q ∙ s.first_one) in
        let b = x.right_lone s.second s.second_name s.second_is (ap (one s.second_name) q ∙ s.second_one) in
        absurd (omega (arith, a, b, s.apart))
    pair-right j k n (Some (Some p)) x e s =
        let q = name-is j k n x e in
        let a : k ≡ p = s.lone k x.right (slice_get_within rights k (Some x.right) x.right_is) x.right_is (ap (one x.right) (sym q) ∙ x.alike) in
        ap (λ z. Some (Some z)) (sym a)

    -- the partner of a left name, where both stand once
    pub partner-lone : (j k : ℕ) (l r : N → Option (Option ℕ)) (o : Option N) → slice_get lefts j ≡ Some o → ((q : N) → Stands one lefts (length lefts) q (l q)) → ((q : N) → Stands one rights (length rights) q (r q)) → Some k ≡ partner_in l r o → LoneNames one lefts rights j k
    partner-lone j k l r None e sl sr p = absurd (cc)
    partner-lone j k l r (Some n) e sl sr p = by (flat (l n)) refl
      where
        by : (x : Option ℕ) → flat (l n) ≡ x → LoneNames one lefts rights j k
        by None f = let g : Some k ≡ None = p ∙ ap (λ z. cond (is_some z) (flat (r n)) None) f in absurd (cc)
        by (Some x) f =
            let g : Some k ≡ flat (r n) = p ∙ ap (λ z. cond (is_some z) (flat (r n)) None) f in
            lone-pair j x k n e (alone-from lefts (length lefts) n (l n) x (sl n) f) (alone-from rights (length rights) n (r n) k (sr n) (sym g))

    -- a left name without a partner is in no pair
    pub partner-none : (j k : ℕ) (l r : N → Option (Option ℕ)) (o : Option N) → slice_get lefts j ≡ Some o → ((q : N) → Stands one lefts (length lefts) q (l q)) → ((q : N) → Stands one rights (length rights) q (r q)) → None ≡ partner_in l r o → LoneNames one lefts rights j k → ⊥
    partner-none j k l r None e sl sr p x = let g : Some None ≡ Some (Some x.left) = sym e ∙ x.left_is in absurd (cc)
    partner-none j k l r (Some n) e sl sr p x =
        let a = pair-left j k n (l n) x e (sl n) in
        let b = pair-right j k n (r n) x e (sr n) in
        let g : None ≡ Some k = p ∙ ap (λ z. cond (is_some (flat z)) (flat (r n)) None) a.1 ∙ ap flat b in
        absurd (cc)
