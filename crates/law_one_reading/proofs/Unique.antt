-- From a place a rule has one value at most, given how the text goes on after it. One lemma for each way of putting productions together.
use Rattle.std.proofs.Common.{◌≡◌, ℕ, inl, inr, List, ◌++◌, refl, sym, ◌∙◌, ap, subst}
use Rattle.law_one_reading.specs.Readings.{End, At, More, Then, Unique, Apart, Starts, OneWayOn, To}
use Rattle.yaml_definitions.specs.grammar.Rules.{Span, Rule, ◌▸◌, ◌◂◌, ◌⨾◌, ◌∪◌, gives, given, some, any, Any, done, then, with_value, seen, where_both, where_value}

-- ---- weaker

pub unique_within : {V : Type 0} {R S : Rule V} {E : End} → ((i j : ℕ) (v : V) → R i j v → S i j v) → Unique S E → Unique R E
unique_within g f i j k m n v w r e s d = f i j k m n v w (g i j v r) e (g i k w s) d

pub unique_until : {V : Type 0} {R : Rule V} {E F : End} → ((j m : ℕ) → E j m → F j m) → Unique R F → Unique R E
unique_until g f i j k m n v w r e s d = f i j k m n v w r (g j m e) s (g k n d)

-- ---- the combinators

pub unique_gives : {V : Type 0} (x : V) {E : End} → OneWayOn E → Unique (gives x) E
unique_gives x {E} h i j k m n v w (a, b) e (c, d) g = (h i m n (subst (λ y. E y m) a e) (subst (λ y. E y n) c g), b ∙ sym d)

pub unique_seen : {A V : Type 0} (g : A → V) {R : Rule A} {E : End} → Unique R E → Unique (seen g R) E
unique_seen g f i j k m n v w (a, r, x) e (b, s, y) d = let h = f i j k m n a b r e s d in (h.0, x ∙ ap g h.1 ∙ sym y)

pub unique_given : {V : Type 0} (P : Type 0) {R : Rule V} {E : End} → (P → Unique R E) → Unique (given P R) E
unique_given P f i j k m n v w (p, r) e (q, s) d = f p i j k m n v w r e s d

pub unique_bounded : {V : Type 0} (P : ℕ → ℕ → Type 0) {R : Rule V} {E : End} → Unique R E → Unique (where_both P R) E
unique_bounded P f i j k m n v w (p, r) e (q, s) d = f i j k m n v w r e s d

pub unique_holding : {V : Type 0} (P : V → Type 0) {R : Rule V} {E : End} → Unique R E → Unique (where_value P R) E
unique_holding P f i j k m n v w (p, r) e (q, s) d = f i j k m n v w r e s d

pub unique_after : {V : Type 0} {R : Rule V} {S : Span} {E : End} → Unique R (Then S E) → Unique (R ◂ S) E
unique_after f i j k m n v w (a, r, s) e (b, t, u) d = f i a b m n v w r (j, s, e) t (k, u, d)

pub unique_before : {V : Type 0} {R : Span} {S : Rule V} {E : End} (D : ℕ → Type 0) → To R D → Starts S E D → Unique S E → Unique (R ▸ S) E
unique_before {V} {R} {S} {E} D t s f i j k m n v w (a, r, u) e (b, q, x) d =
    let h : a ≡ b = t i a b r (s a j m v u e) q (s b k n w x d) in
    f a j k m n v w u e (subst (λ y. S y k w) (sym h) x) d

pub unique_joined : {A : Type 0} {R S : Rule (List A)} {E : End} (D : ℕ → Type 0) → Unique R (At D) → Starts S E D → Unique S E → Unique (R ⨾ S) E
unique_joined {A} {R} {S} {E} D g s f i j k m n v w (a, ys, zs, r, u, x) e (b, us, ts, q, t, y) d =
    let h = g i a b a b ys us r (refl, s a j m zs u e) q (refl, s b k n ts t d) in
    let o = f a j k m n zs ts u e (subst (λ c. S c k ts) (sym h.0) t) d in
    (o.0, x ∙ ap (λ c. ys ++ c) o.1 ∙ ap (λ c. c ++ ts) h.1 ∙ sym y)

pub unique_taking : {A V : Type 0} {R : Rule A} {S : A → Rule V} {E : End} (D : ℕ → Type 0) → Unique R (At D) → ((a : A) → Starts (S a) E D) → ((a : A) → Unique (S a) E) → Unique (with_value R S) E
unique_taking {A} {V} {R} {S} {E} D g s f i j k m n v w (a, x, r, u) e (b, y, q, t) d =
    let h = g i a b a b x y r (refl, s x a j m v u e) q (refl, s y b k n w t d) in
    f x a j k m n v w u e (subst (λ c. S c a k w) (sym h.1) (subst (λ c. S y c k w) (sym h.0) t)) d

pub unique_either : {V : Type 0} {R S : Rule V} {E : End} → Unique R E → Unique S E → Apart R E S E → Unique (R ∪ S) E
unique_either f g h i j k m n v w (inl r) e (inl s) d = f i j k m n v w r e s d
unique_either f g h i j k m n v w (inr r) e (inr s) d = g i j k m n v w r e s d
unique_either f g h i j k m n v w (inl r) e (inr s) d = absurd (h i j k m n v w r e s d)
unique_either f g h i j k m n v w (inr r) e (inl s) d = absurd (h i k j n m w v s d r e)

pub unique_some : {V : Type 0} {R : ℕ → Rule V} {E : End} → ((a b i j k m n : ℕ) (v w : V) → R a i j v → E j m → R b i k w → E k n → a ≡ b) → ((a : ℕ) → Unique (R a) E) → Unique (some R) E
unique_some {V} {R} {E} g f i j k m n v w (a, r) e (b, s) d =
    let h = g a b i j k m n v w r e s d in
    f a i j k m n v w r e (subst (λ c. R c i k w) (sym h) s) d

-- starts decide
pub apart_starts : {V W : Type 0} {R : Rule V} {S : Rule W} {E F : End} (C D : ℕ → Type 0) → Starts R E C → Starts S F D → ((i : ℕ) → C i → D i → ⊥) → Apart R E S F
apart_starts C D f g h i j k m n v w r e s d = h i (f i j m v r e) (g i k n w s d)

-- ---- any number of times

module _ {A : Type 0} {R : Rule (List A)} {E : End} (D : ℕ → Type 0) (starts : Starts R (More D E) D) where
  pub chain_more : (j m i : ℕ) (xs : List A) → Any R j i xs → E j m → (o : ℕ) × More D E i o
  chain_more j m i xs (done e f) d = (m, inr (subst (λ x. E x m) e d))
  chain_more j m i xs (then k ys zs r rest e) d = let (o, g) = chain_more j m k zs rest d in (i, inl (refl, starts i k o ys r g))

  pub chain_start : (j m i k : ℕ) (xs zs : List A) → R i k xs → Any R j k zs → E j m → D i
  chain_start j m i k xs zs r rest d = let (o, g) = chain_more j m k zs rest d in starts i k o xs r g

  pub any_more : (j m i : ℕ) (xs : List A) → any R i j xs → E j m → (o : ℕ) × More D E i o
  any_more j m i xs r d = chain_more j m i xs r d

  module _ (one : Unique R (More D E)) (here : (i m : ℕ) → D i → E i m → ⊥) (there : (j m : ℕ) → D m → E j m → ⊥) (same : OneWayOn E) where
    unique_chain : (j k m n i : ℕ) (xs ys : List A) → Any R j i xs → E j m → Any R k i ys → E k n → (m ≡ n) × (xs ≡ ys)
    unique_chain j k m n i xs ys (done a b) e (done c d) g = (same i m n (subst (λ x. E x m) a e) (subst (λ x. E x n) c g), b ∙ sym d)
    unique_chain j k m n i xs ys (done a b) e (then p ws ts t more y) g = absurd (here i m (chain_start k n i p ws ts t more g) (subst (λ x. E x m) a e))
    unique_chain j k m n i xs ys (then o us vs r rest x) e (done c d) g = absurd (here i n (chain_start j m i o us vs r rest e) (subst (λ x. E x n) c g))
    unique_chain j k m n i xs ys (then o us vs r (done a b) x) e (then p ws ts t (done c d) y) g =
        let h = one i o p m n us ws r (inr (subst (λ z. E z m) a e)) t (inr (subst (λ z. E z n) c g)) in
        (h.0, x ∙ ap (λ z. us ++ z) (b ∙ sym d) ∙ ap (λ z. z ++ ts) h.1 ∙ sym y)
    unique_chain j k m n i xs ys (then o us vs r (done a b) x) e (then p ws ts t (then q as1 bs u more c) y) g =
        let s = chain_start k n p q as1 bs u more g in
        let h = one i o p m p us ws r (inr (subst (λ z. E z m) a e)) t (inl (refl, s)) in
        absurd (there o m (subst D (sym h.0) s) (subst (λ z. E z m) a e))
    unique_chain j k m n i xs ys (then o us vs r (then q as1 bs u more a) x) e (then p ws ts t (done c d) y) g =
        let s = chain_start j m o q as1 bs u more e in
        let h = one i o p o n us ws r (inl (refl, s)) t (inr (subst (λ z. E z n) c g)) in
        absurd (there p n (subst D h.0 s) (subst (λ z. E z n) c g))
    unique_chain j k m n i xs ys (then o us vs r (then q as1 bs u more a) x) e (then p ws ts t (then l cs1 ds w rest c) y) g =
        let s = chain_start j m o q as1 bs u more e in
        let z = chain_start k n p l cs1 ds w rest g in
        let h = one i o p o p us ws r (inl (refl, s)) t (inl (refl, z)) in
        let f = unique_chain j k m n o vs ts (then q as1 bs u more a) e (subst (λ b. Any R k b ts) (sym h.0) (then l cs1 ds w rest c)) g in
        (f.0, x ∙ ap (λ b. us ++ b) f.1 ∙ ap (λ b. b ++ ts) h.1 ∙ sym y)

    -- a first one, perhaps by another rule, and then any number
    pub unique_first : {S : Rule (List A)} → Unique S (More D E) → Unique (S ⨾ any R) E
    unique_first {S} f i j k m n v w (o, us, vs, r, (done a b), x) e (p, ws, ts, t, (done c d), y) g =
        let h = f i o p m n us ws r (inr (subst (λ z. E z m) a e)) t (inr (subst (λ z. E z n) c g)) in
        (h.0, x ∙ ap (λ z. us ++ z) (b ∙ sym d) ∙ ap (λ z. z ++ ts) h.1 ∙ sym y)
    unique_first {S} f i j k m n v w (o, us, vs, r, (done a b), x) e (p, ws, ts, t, (then q as1 bs u more c), y) g =
        let s = chain_start k n p q as1 bs u more g in
        let h = f i o p m p us ws r (inr (subst (λ z. E z m) a e)) t (inl (refl, s)) in
        absurd (there o m (subst D (sym h.0) s) (subst (λ z. E z m) a e))
    unique_first {S} f i j k m n v w (o, us, vs, r, (then q as1 bs u more a), x) e (p, ws, ts, t, (done c d), y) g =
        let s = chain_start j m o q as1 bs u more e in
        let h = f i o p o n us ws r (inl (refl, s)) t (inr (subst (λ z. E z n) c g)) in
        absurd (there p n (subst D h.0 s) (subst (λ z. E z n) c g))
    unique_first {S} f i j k m n v w (o, us, vs, r, (then q as1 bs u more a), x) e (p, ws, ts, t, (then l cs1 ds z rest c), y) g =
        let s = chain_start j m o q as1 bs u more e in
        let a1 = chain_start k n p l cs1 ds z rest g in
        let h = f i o p o p us ws r (inl (refl, s)) t (inl (refl, a1)) in
        let b1 = unique_chain j k m n o vs ts (then q as1 bs u more a) e (subst (λ b. Any R k b ts) (sym h.0) (then l cs1 ds z rest c)) g in
        (b1.0, x ∙ ap (λ b. us ++ b) b1.1 ∙ ap (λ b. b ++ ts) h.1 ∙ sym y)

-- ---- from places of which more is known

abbrev pub from : {V : Type 0} → (ℕ → Type 0) → Rule V → Rule V
from P R i j v = P i × R i j v

pub from_before : {V : Type 0} (P : ℕ → Type 0) {R : Span} (S : Rule V) → ((i j : ℕ) → R i j → P j) → (i j : ℕ) (v : V) → (R ▸ S) i j v → (R ▸ from P S) i j v
from_before P S f i j v (k, r, s) = (k, r, (f i k r, s))

pub from_joined : {A : Type 0} (P : ℕ → Type 0) {R : Rule (List A)} (S : Rule (List A)) → ((i j : ℕ) (v : List A) → R i j v → P j) → (i j : ℕ) (v : List A) → (R ⨾ S) i j v → (R ⨾ from P S) i j v
from_joined P S f i j v (k, ys, zs, r, s, e) = (k, ys, zs, r, (f i k ys r, s), e)

pub unique_from : {V : Type 0} (P : ℕ → Type 0) {R : Rule V} {E : End} → Unique R E → Unique (from P R) E
unique_from P f i j k m n v w (p, r) e (q, s) d = f i j k m n v w r e s d

pub unique_from_either : {V : Type 0} (P : ℕ → Type 0) {R S : Rule V} {E : End} → Unique (from P R) E → Unique (from P S) E → Apart (from P R) E (from P S) E → Unique (from P (R ∪ S)) E
unique_from_either P f g h i j k m n v w (p, inl r) e (q, inl s) d = f i j k m n v w (p, r) e (q, s) d
unique_from_either P f g h i j k m n v w (p, inr r) e (q, inr s) d = g i j k m n v w (p, r) e (q, s) d
unique_from_either P f g h i j k m n v w (p, inl r) e (q, inr s) d = absurd (h i j k m n v w (p, r) e (q, s) d)
unique_from_either P f g h i j k m n v w (p, inr r) e (q, inl s) d = absurd (h i k j n m w v (q, s) d (p, r) e)
