-- Rules with one reading at each place, and what they give any number of times.
use Rattle.std.proofs.Common.{◌≡◌, ℕ, ◌≤◌, ◌<◌, ◌⊎◌, inl, inr, List, [], ◌++◌, refl, sym, ◌∙◌, ap, subst, arith, append_assoc}
use Rattle.std.proofs.lemmas.List.{append-nil}
use Rattle.yaml_definitions.specs.grammar.Rules.{Span, ◌◂◌, ◌⨾◌, Any, done, then, any, where_both}
use Rattle.yaml_text.proofs.Repeats.{SameEnd}
use Rattle.yaml_scalar.specs.Chains.{TextRule}
use Rattle.yaml_text.specs.LeafAnswer.{Unread}

-- from a place the rule has one reading at most
abbrev pub Same : TextRule → Type 0
Same R = (i j k : ℕ) (xs ys : List ℕ) → R i j xs → R i k ys → (j ≡ k) × (xs ≡ ys)

abbrev pub Onward : TextRule → Type 0
Onward R = (i j : ℕ) (xs : List ℕ) → R i j xs → i < j

pub any_none : {R : TextRule} {i : ℕ} → Any R i i []
any_none = done refl refl

-- one more at the end
pub any_snoc : {R : TextRule} {k j i : ℕ} {xs ys : List ℕ} → Any R k i xs → R k j ys → Any R j i (xs ++ ys)
any_snoc {R} {k} {j} {i} {xs} {ys} (done e f) r =
    subst (λ v. Any R j i (v ++ ys)) (sym f) (then j ys [] (subst (λ m. R m j ys) e r) (done refl refl) (sym (append-nil ys)))
any_snoc {R} {k} {j} {i} {xs} {ys} (then m us vs p rest e) r =
    then m us (vs ++ ys) p (any_snoc rest r) (ap (λ v. v ++ ys) e ∙ append_assoc us vs ys)

pub any_append : {R : TextRule} {k j i : ℕ} {xs ys : List ℕ} → Any R k i xs → Any R j k ys → Any R j i (xs ++ ys)
any_append {R} {k} {j} {i} {xs} {ys} (done e f) r =
    subst (λ v. Any R j i (v ++ ys)) (sym f) (subst (λ m. Any R j m ys) e r)
any_append {R} {k} {j} {i} {xs} {ys} (then m us vs p rest e) r =
    then m us (vs ++ ys) p (any_append rest r) (ap (λ v. v ++ ys) e ∙ append_assoc us vs ys)

-- each of them by a weaker rule
pub any_weaker : {R S : TextRule} → ((i j : ℕ) (xs : List ℕ) → R i j xs → S i j xs) → {j i : ℕ} {xs : List ℕ} → Any R j i xs → Any S j i xs
any_weaker f (done a b) = done a b
any_weaker f (then k ys zs r rest e) = then k ys zs (f _ k ys r) (any_weaker f rest) e

pub any_onward : {R : TextRule} → Onward R → {j i : ℕ} {xs : List ℕ} → Any R j i xs → i ≤ j
any_onward {R} o {j} {i} (done e f) = omega (arith, e)
any_onward {R} o {j} {i} (then k ys zs r rest e) =
    let h : i < k = o i k ys r in
    let g : k ≤ j = any_onward o rest in
    omega (arith, h, g)

-- of two chains from a place one goes on from the other's end
pub any_chain : {R : TextRule} → Same R → {j k i : ℕ} {xs ys : List ℕ} → Any R j i xs → Any R k i ys →
    ((zs : List ℕ) × Any R k j zs × (ys ≡ xs ++ zs)) ⊎ ((zs : List ℕ) × Any R j k zs × (xs ≡ ys ++ zs))
any_chain {R} same {j} {k} {i} {xs} {ys} (done e f) q = inl (ys, subst (λ m. Any R k m ys) (sym e) q, ap (λ v. v ++ ys) (sym f))
any_chain {R} same {j} {k} {i} {xs} {ys} (then m us vs r rest e) (done a b) =
    inr (xs, subst (λ n. Any R j n xs) (sym a) (then m us vs r rest e), ap (λ v. v ++ xs) (sym b))
any_chain {R} same {j} {k} {i} {xs} {ys} (then m us vs r rest e) (then n ws ts s more g) =
    let both = same i m n us ws r s in
    elim (any_chain same rest (subst (λ x. Any R k x ts) (sym both.0) more)) [
      | inl (zs, p, q) ↦ inl (zs, p, g ∙ ap (λ v. v ++ ts) (sym both.1) ∙ ap (λ v. us ++ v) q ∙ sym (append_assoc us vs zs) ∙ ap (λ v. v ++ zs) (sym e))
      | inr (zs, p, q) ↦ inr (zs, p, e ∙ ap (λ v. us ++ v) q ∙ sym (append_assoc us ts zs) ∙ ap (λ v. v ++ zs) (ap (λ v. v ++ ts) both.1 ∙ sym g))
    ]

-- a chain from a place to itself has no text
pub any_still : {R : TextRule} → Onward R → {i j : ℕ} {xs : List ℕ} → Any R j i xs → j ≡ i → xs ≡ []
any_still o (done e f) h = f
any_still {R} o {i} {j} (then k ys zs r rest e) h =
    let a : i < k = o i k ys r in
    let b : k ≤ j = any_onward o rest in
    absurd (omega (arith, a, b, h))

-- a span kept by its parts
pub record Cuts (U : Span) : Type 0 where
  pub front : (i k j : ℕ) → i ≤ k → k ≤ j → U i j → U i k
  pub back : (i k j : ℕ) → i ≤ k → k ≤ j → U i j → U k j

-- where none goes on from a chain's end, it is the furthest
pub chain_furthest : {R : TextRule} {U : Span} → Same R → Onward R → Cuts U → {i j k : ℕ} {xs ys : List ℕ} →
    Any R j i xs → Unread (where_both U R) j → Any R k i ys → U i k → (k ≤ j) × (k ≡ j → ys ≡ xs)
chain_furthest {R} {U} same o cuts {i} {j} {k} {xs} {ys} p stop q u =
    elim (any_chain same p q) [
      | inl (zs, r, e) ↦ beyond zs r e
      | inr (zs, r, e) ↦ (any_onward o r, λ h. sym (e ∙ ap (λ v. ys ++ v) (any_still o r (sym h)) ∙ append-nil ys))
    ]
  where
    beyond : (zs : List ℕ) → Any R k j zs → ys ≡ xs ++ zs → (k ≤ j) × (k ≡ j → ys ≡ xs)
    beyond zs (done a b) e = (omega (arith, a), λ h. e ∙ ap (λ v. xs ++ v) b ∙ append-nil xs)
    beyond zs (then m us vs r rest f) e =
        let a : i ≤ j = any_onward o p in
        let b : j < m = o j m us r in
        let c : m ≤ k = any_onward o rest in
        absurd (stop m us (cuts.front j m k (omega (arith, b)) c (cuts.back i j k a (omega (arith, b, c)) u), r))

-- any and then a rule that stands where none of them does: one reading at most
pub any_then_same : {R T : TextRule} → Same R → Same T → ((i j k : ℕ) (xs ys : List ℕ) → R i j xs → T i k ys → ⊥) → Same (any R ⨾ T)
any_then_same {R} {T} sr st apart i j k xs ys (m, us, vs, p, t, e) (n, ws, ts, q, s, f) =
    elim (any_chain sr p q) [
      | inl (zs, r, g) ↦ go m n us vs ws ts zs xs ys j k t s e f r g
      | inr (zs, r, g) ↦ let b = go n m ws ts us vs zs ys xs k j s t f e r g in (sym b.0, sym b.1)
    ]
  where
    go : (m n : ℕ) (us vs ws ts zs xs ys : List ℕ) (j k : ℕ) → T m j vs → T n k ts → xs ≡ us ++ vs → ys ≡ ws ++ ts → Any R n m zs → ws ≡ us ++ zs → (j ≡ k) × (xs ≡ ys)
    go m n us vs ws ts zs xs ys j k t s e f (done a b) g =
        let h = st m j k vs ts t (subst (λ x. T x k ts) a s) in
        (h.0, e ∙ ap (λ v. us ++ v) h.1 ∙ ap (λ v. v ++ ts) (sym (append-nil us) ∙ ap (λ v. us ++ v) (sym b) ∙ sym g) ∙ sym f)
    go m n us vs ws ts zs xs ys j k t s e f (then o ms bs r rest h) g = absurd (apart m o j ms vs r t)

-- where nothing stands at a chain's end, nothing stands at its start
pub any_then_none : {R T : TextRule} {U : Span} → Same R → Onward R → Cuts U → ((i j : ℕ) (xs : List ℕ) → T i j xs → i ≤ j) →
    ((i j k : ℕ) (xs ys : List ℕ) → R i j xs → T i k ys → ⊥) →
    {i k : ℕ} {xs : List ℕ} → Any R k i xs → Unread (where_both U (any R ⨾ T)) k → Unread (where_both U (any R ⨾ T)) i
any_then_none {R} {T} {U} same o cuts onward apart {i} {k} {xs} p none j ys (u, (n, ws, ts, q, s, f)) =
    elim (any_chain same p q) [
      | inl (zs, r, g) ↦
          (let a : i ≤ k = any_onward o p in
          let b : k ≤ n = any_onward o r in
          let c : n ≤ j = onward n j ts s in
          none j (zs ++ ts) (cuts.back i k j a (omega (arith, b, c)) u, (n, zs, ts, r, s, refl)))
      | inr (zs, r, g) ↦ go zs r
    ]
  where
    go : (zs : List ℕ) → Any R k n zs → ⊥
    go zs (done a b) =
        let h : i ≤ n = any_onward o q in
        let c : n ≤ j = onward n j ts s in
        none j ts (cuts.back i k j (omega (arith, h, a)) (omega (arith, c, a)) u, (k, [], ts, done refl refl, subst (λ m. T m j ts) (sym a) s, refl))
    go zs (then m ms bs r rest e) = apart n m j ms ts r s

-- the same two of a span at the end
pub any_span_same : {R : TextRule} {S : Span} → Same R → SameEnd S → ((i j k : ℕ) (xs : List ℕ) → R i j xs → S i k → ⊥) → Same (any R ◂ S)
any_span_same {R} {S} sr st apart i j k xs ys (m, p, t) (n, q, s) = go i xs ys p q
  where
    go : (i : ℕ) (xs ys : List ℕ) → Any R m i xs → Any R n i ys → (j ≡ k) × (xs ≡ ys)
    go i xs ys (done a b) (done c d) = (st i j k (subst (λ x. S x j) a t) (subst (λ x. S x k) c s), b ∙ sym d)
    go i xs ys (done a b) (then o us vs r rest e) = absurd (apart i o j us r (subst (λ x. S x j) a t))
    go i xs ys (then o us vs r rest e) (done c d) = absurd (apart i o k us r (subst (λ x. S x k) c s))
    go i xs ys (then o us vs r rest e) (then l ws ts u more f) =
        let both = sr i o l us ws r u in
        let b : (j ≡ k) × (vs ≡ ts) = go o vs ts rest (subst (λ x. Any R n x ts) (sym both.0) more) in
        (b.0, e ∙ ap (λ v. us ++ v) b.1 ∙ ap (λ v. v ++ ts) both.1 ∙ sym f)

pub any_span_none : {R : TextRule} {S : Span} → Same R → ((i j k : ℕ) (xs : List ℕ) → R i j xs → S i k → ⊥) →
    {i k : ℕ} {xs : List ℕ} → Any R k i xs → Unread (any R ◂ S) k → Unread (any R ◂ S) i
any_span_none {R} {S} same apart {i} {k} {xs} p none j ys (n, q, s) =
    elim (any_chain same p q) [
      | inl (zs, r, g) ↦ none j zs (n, r, s)
      | inr (zs, r, g) ↦ go zs r
    ]
  where
    go : (zs : List ℕ) → Any R k n zs → ⊥
    go zs (done a b) = none j [] (k, done refl refl, subst (λ m. S m j) (sym a) s)
    go zs (then m ms bs r rest e) = apart n m j ms r s
