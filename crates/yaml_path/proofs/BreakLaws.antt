-- Where a break of the grammar ends.
use Rattle.std.proofs.Common.{◌≡◌, ◌⊎◌, ℕ, zero, suc, ◌+◌, ◌-◌, Bool, true, false, not, ◌&&◌, ◌||◌, List, [], ◌∷◌, inl, inr, refl, sym, ◌∙◌, ap, arith}
use Rattle.std.specs.Prelude.{◌==◌, slice_get, slice_index, Some}
use Rattle.std.proofs.lemmas.Bool.{eqb-true, eq-eqb}
use Rattle.yaml_definitions.specs.grammar.Rules.{Ends, Stands, Behind}
use Rattle.yaml_definitions.specs.grammar.Characters.{b-break}
use Rattle.yaml_path.specs.LineModel.{ends_break}

either-way : (b : Bool) → (b ≡ true) ⊎ (b ≡ false)
either-way true = inl refl
either-way false = inr refl

either-of : (a b : Bool) → (a || b) ≡ true → (a ≡ true) ⊎ (b ≡ true)
either-of true b e = inl refl
either-of false b e = inr e

or-left : (a b : Bool) → a ≡ true → (a || b) ≡ true
or-left true b e = refl
or-left false b e = absurd (cc)

or-right : (a b : Bool) → b ≡ true → (a || b) ≡ true
or-right true b e = refl
or-right false b e = e

both-of : (a b : Bool) → (a && b) ≡ true → (a ≡ true) × (b ≡ true)
both-of true b e = (refl, e)
both-of false b e = absurd (cc)

and-both : (a b : Bool) → a ≡ true → b ≡ true → (a && b) ≡ true
and-both true b e f = f
and-both false b e f = absurd (cc)

not-true : (b : Bool) → not b ≡ true → b ≡ true → ⊥
not-true true e f = absurd (cc)
not-true false e f = absurd (cc)

no-true : (b : Bool) → (b ≡ true → ⊥) → not b ≡ true
no-true true f = absurd (f refl)
no-true false f = refl

-- a number that is not 0 stands where it is read
index-get : (cs : List ℕ) (k c : ℕ) → slice_index cs k ≡ suc c → slice_get cs k ≡ Some (suc c)
index-get [] k c e = absurd (cc)
index-get (x ∷ cs) zero c e = ap Some e
index-get (x ∷ cs) (suc k) c e = index-get cs k c e

get-index : (cs : List ℕ) (k c : ℕ) → slice_get cs k ≡ Some c → slice_index cs k ≡ c
get-index [] k c e = absurd (cc)
get-index (x ∷ cs) zero c e = cc
get-index (x ∷ cs) (suc k) c e = get-index cs k c e

some-is : {X : Type 0} {x y : X} → Some x ≡ Some y → x ≡ y
some-is e = cc

pub break-ends : (cs : List ℕ) (k : ℕ) → ends_break cs k ≡ true → Ends (b-break cs) (k + 1)
unfolding b-break
break-ends cs k h = elim (either-of (slice_index cs k == 10) ((slice_index cs k == 13) && not (slice_index cs (k + 1) == 10)) h) [
  | inl e ↦ feed k (index-get cs k 9 (eqb-true (slice_index cs k) 10 e))
  | inr e ↦
      let b = both-of (slice_index cs k == 13) (not (slice_index cs (k + 1) == 10)) e in
      (k, inr (inl (k + 1, (index-get cs k 12 (eqb-true (slice_index cs k) 13 b.0), refl), (refl, λ s. alone s b.1))))
]
  where
    alone : Stands cs (λ c. c == 10) (k + 1) → not (slice_index cs (k + 1) == 10) ≡ true → ⊥
    alone s n = not-true (slice_index cs (k + 1) == 10) n (ap (λ z. z == 10) (get-index cs (k + 1) s.0 s.1) ∙ s.2)

    feed : (k : ℕ) → slice_get cs k ≡ Some 10 → Ends (b-break cs) (k + 1)
    feed zero g = (0, inr (inr (0, (refl, λ b. omega (arith, b.0)), (g, refl))))
    feed (suc m) g = elim (either-way (slice_index cs m == 13)) [
      | inl e ↦ (m, inl (m + 1, (index-get cs m 12 (eqb-true (slice_index cs m) 13 e), refl), (let q : m + 1 ≡ suc m = omega arith in ap (slice_get cs) q ∙ g, omega arith)))
      | inr e ↦ (suc m, inr (inr (suc m, (refl, λ b. bare b e), (g, refl))))
    ]
      where
        bare : Behind cs (λ c. c == 13) (suc m) → (slice_index cs m == 13) ≡ false → ⊥
        bare b e =
            let q : suc m - 1 ≡ m = omega arith in
            let x : slice_index cs m ≡ b.1.0 = get-index cs m b.1.0 (ap (slice_get cs) (sym q) ∙ b.1.1) in
            let y : (slice_index cs m == 13) ≡ true = ap (λ z. z == 13) x ∙ b.1.2 in
            let z : true ≡ false = sym y ∙ e in
            absurd (cc)

pub ends-break : (cs : List ℕ) (k : ℕ) → Ends (b-break cs) (k + 1) → ends_break cs k ≡ true
unfolding b-break
ends-break cs k e = elim e.1 [
  | inl a ↦ feed (let q : a.0 ≡ k = omega (arith, a.2.1) in ap (slice_get cs) (sym q) ∙ a.2.0)
  | inr x ↦ elim x [
    | inl a ↦
        let q : e.0 ≡ k = omega (arith, a.1.1, a.2.0) in
        or-right (slice_index cs k == 10) ((slice_index cs k == 13) && not (slice_index cs (k + 1) == 10)) (and-both (slice_index cs k == 13) (not (slice_index cs (k + 1) == 10)) (eq-eqb (slice_index cs k) 13 (get-index cs k 13 (ap (slice_get cs) (sym q) ∙ a.1.0)))
        (no-true (slice_index cs (k + 1) == 10) (λ h. a.2.1 (let p : a.0 ≡ k + 1 = omega (arith, a.2.0) in (10, ap (slice_get cs) p ∙ index-get cs (k + 1) 9 (eqb-true (slice_index cs (k + 1)) 10 h), refl)))))
    | inr a ↦ feed (let q : a.0 ≡ k = omega (arith, a.2.1) in ap (slice_get cs) (sym q) ∙ a.2.0)
  ]
]
  where
    feed : slice_get cs k ≡ Some 10 → ends_break cs k ≡ true
    feed g = or-left (slice_index cs k == 10) ((slice_index cs k == 13) && not (slice_index cs (k + 1) == 10)) (eq-eqb (slice_index cs k) 10 (get-index cs k 10 g))
