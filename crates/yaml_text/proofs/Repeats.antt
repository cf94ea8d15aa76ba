-- Rules with one reading at each place, any number of times, up to a place where no more stands.
use Rattle.std.proofs.Common.{◌≡◌, ℕ, ◌≤◌, List, [], ◌++◌, refl, sym, ◌∙◌, ap, subst, arith, append_assoc}
use Rattle.std.proofs.lemmas.List.{append-nil}
use Rattle.yaml_definitions.specs.grammar.Rules.{Span, Rule, Any, done, then, Spans}

-- from a place the span has one end at most
abbrev pub SameEnd : Span → Type 0
SameEnd S = (i j k : ℕ) → S i j → S i k → j ≡ k

-- from a place the rule has one reading at most
abbrev pub SameRule : {V : Type 0} → Rule V → Type 0
SameRule {V} R = (i j k : ℕ) (v w : V) → R i j v → R i k w → (j ≡ k) × (v ≡ w)

module _ {A : Type 0} where
  pub any_start : {R : Rule (List A)} {i : ℕ} → Any R i i []
  any_start = done refl refl

  -- one more at the end
  pub any_push : {R : Rule (List A)} {k j i : ℕ} {xs ys : List A} → Any R k i xs → R k j ys → Any R j i (xs ++ ys)
  any_push {R} {k} {j} {i} {xs} {ys} (done e f) r =
      subst (λ v. Any R j i (v ++ ys)) (sym f) (then j ys [] (subst (λ m. R m j ys) e r) (done refl refl) (sym (append-nil ys)))
  any_push {R} {k} {j} {i} {xs} {ys} (then m us vs p rest e) r =
      then m us (vs ++ ys) p (any_push rest r) (ap (λ v. v ++ ys) e ∙ append_assoc us vs ys)

  pub any_join : {R : Rule (List A)} {k j i : ℕ} {xs ys : List A} → Any R k i xs → Any R j k ys → Any R j i (xs ++ ys)
  any_join {R} {k} {j} {i} {xs} {ys} (done e f) r =
      subst (λ v. Any R j i (v ++ ys)) (sym f) (subst (λ m. Any R j m ys) e r)
  any_join {R} {k} {j} {i} {xs} {ys} (then m us vs p rest e) r =
      then m us (vs ++ ys) p (any_join rest r) (ap (λ v. v ++ ys) e ∙ append_assoc us vs ys)

  -- each of them by a weaker rule
  pub any_by : {R S : Rule (List A)} → ((i j : ℕ) (xs : List A) → R i j xs → S i j xs) → {j i : ℕ} {xs : List A} → Any R j i xs → Any S j i xs
  any_by f (done a b) = done a b
  any_by f (then k ys zs r rest e) = then k ys zs (f _ k ys r) (any_by f rest) e

  -- two chains to where none goes on are the same
  pub any_to_stop : {R : Rule (List A)} → SameRule R → (Stop : ℕ → Type 0) → ((i j : ℕ) (xs : List A) → R i j xs → Stop i → ⊥) →
      {j k i : ℕ} {xs ys : List A} → Any R j i xs → Stop j → Any R k i ys → Stop k → (j ≡ k) × (xs ≡ ys)
  any_to_stop same Stop apart {j} {k} {i} {xs} {ys} (done a b) s (done c d) t = (a ∙ sym c, b ∙ sym d)
  any_to_stop same Stop apart {j} {k} {i} {xs} {ys} (done a b) s (then m us vs r rest e) t = absurd (apart i m us r (subst Stop a s))
  any_to_stop same Stop apart {j} {k} {i} {xs} {ys} (then m us vs r rest e) s (done c d) t = absurd (apart i m us r (subst Stop c t))
  any_to_stop {R} same Stop apart {j} {k} {i} {xs} {ys} (then m us vs r rest e) s (then n ws ts u more f) t =
      let one = same i m n us ws r u in
      let two = any_to_stop same Stop apart rest s (subst (λ x. Any R k x ts) (sym one.0) more) t in
      (two.0, e ∙ ap (λ v. us ++ v) two.1 ∙ ap (λ v. v ++ ts) one.1 ∙ sym f)

-- ---- spans

pub spans_push : {R : Span} {k j i : ℕ} → Spans R k i → R k j → Spans R j i
spans_push {R} {k} {j} {i} (done e) r = then j (subst (λ m. R m j) e r) (done refl)
spans_push {R} {k} {j} {i} (then m p rest) r = then m p (spans_push rest r)

pub spans_join : {R : Span} {k j i : ℕ} → Spans R k i → Spans R j k → Spans R j i
spans_join {R} {k} {j} {i} (done e) more = subst (λ m. Spans R j m) e more
spans_join {R} {k} {j} {i} (then m p rest) more = then m p (spans_join rest more)

pub spans_onward : {R : Span} → ((i j : ℕ) → R i j → i ≤ j) → {j i : ℕ} → Spans R j i → i ≤ j
spans_onward {R} f {j} {i} (done e) = omega (arith, e)
spans_onward {R} f {j} {i} (then k r more) = let a : i ≤ k = f i k r in let b : k ≤ j = spans_onward f more in omega (arith, a, b)

-- where none goes on from a chain's end, no chain ends later
pub spans_furthest : {R : Span} → SameEnd R → ((i j : ℕ) → R i j → i ≤ j) → {j k i : ℕ} → Spans R j i → ((m : ℕ) → R j m → ⊥) → Spans R k i → k ≤ j
spans_furthest {R} same f {j} {k} {i} (done e) stop (done g) = omega (arith, e, g)
spans_furthest {R} same f {j} {k} {i} (done e) stop (then m r more) = absurd (stop m (subst (λ x. R x m) (sym e) r))
spans_furthest {R} same f {j} {k} {i} (then m r more) stop (done g) =
    let a : i ≤ m = f i m r in let b : m ≤ j = spans_onward f more in omega (arith, a, b, g)
spans_furthest {R} same f {j} {k} {i} (then m r more) stop (then n s rest) =
    spans_furthest same f more stop (subst (λ x. Spans R k x) (same i n m s r) rest)
