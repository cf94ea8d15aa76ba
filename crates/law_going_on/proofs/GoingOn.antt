-- What a reader that decides says of a production: no reading from here goes on, or what was read goes on wherever any reading does.
-- One lemma for each way of putting productions together.
use Rattle.std.proofs.Common.{◌≡◌, ℕ, inl, inr, List, [], refl, sym, ◌∙◌, subst}
use Rattle.yaml_definitions.specs.grammar.Rules.{Span, Rule, ◌▸◌, ◌⨾◌, ◌∪◌, given, any, Any, done, then, seen}
use Rattle.law_one_reading.proofs.Unique.{chain_start}
use Rattle.law_going_on.specs.GoingOn.{Refused, Goes, Rest, Here}
use Rattle.law_one_reading.specs.Readings.{End, At, More, Unique, Starts}

-- ---- the three together

pub only : {V : Type 0} {R : Rule V} {E : End} {i x : ℕ} {v : V} → Unique R E → R i x v → Goes R E i E x → (j m : ℕ) (w : V) → R i j w → E j m → E x m × (v ≡ w)
only {V} {R} {E} {i} {x} {v} u r g j m w s e = let h = g.goes j m w s e in (h, (u i x j m m v w r h s e).1)

pub goes_refused : {V : Type 0} {R : Rule V} {E F : End} {i x : ℕ} → Goes R E i F x → ((m : ℕ) → F x m → ⊥) → Refused R E i
goes_refused g n = record { none = λ j m v r e. n m (g.goes j m v r e) }

pub rest_refused : {V W : Type 0} {R : Rule V} {S : Rule W} {E F : End} {i x : ℕ} → Rest R E i S F x → Refused S F x → Refused R E i
rest_refused f n = record { none = λ j m v r e. let (k, w, s, d) = f.rest j m v r e in n.none k m w s d }

pub rest_goes : {V W : Type 0} {R : Rule V} {S : Rule W} {E F G : End} {i x y : ℕ} → Rest R E i S F x → Goes S F x G y → Goes R E i G y
rest_goes f g = record { goes = λ j m v r e. let (k, w, s, d) = f.rest j m v r e in g.goes k m w s d }

pub rest_rest : {U V W : Type 0} {R : Rule U} {S : Rule V} {T : Rule W} {E F G : End} {i x y : ℕ} → Rest R E i S F x → Rest S F x T G y → Rest R E i T G y
rest_rest f g = record { rest = λ j m v r e. let (k, w, s, d) = f.rest j m v r e in g.rest k m w s d }

-- ---- where an answer's clause comes from

-- a reading of which the caller has seen that it goes on
pub goes_seen : {V : Type 0} {R : Rule V} {E : End} {i x n : ℕ} {v : V} → Unique R E → R i x v → E x n → Goes R E i Here n
goes_seen {V} {R} {E} {i} {x} {n} {v} u r d = record { goes = λ j m w s e. (u i j x m n w v s e r d).0 }

-- ---- weaker

pub refused_within : {V : Type 0} (R : Rule V) {S : Rule V} {E : End} {i : ℕ} → ((j : ℕ) (v : V) → R i j v → S i j v) → Refused S E i → Refused R E i
refused_within R g f = record { none = λ j m v r e. f.none j m v (g j v r) e }

pub refused_until : {V : Type 0} {R : Rule V} (E : End) {F : End} {i : ℕ} → ((j m : ℕ) → E j m → F j m) → Refused R F i → Refused R E i
refused_until E g f = record { none = λ j m v r e. f.none j m v r (g j m e) }

pub goes_within : {V : Type 0} (R : Rule V) {S : Rule V} {E F : End} {i x : ℕ} → ((j : ℕ) (v : V) → R i j v → S i j v) → Goes S E i F x → Goes R E i F x
goes_within R g f = record { goes = λ j m v r e. f.goes j m v (g j v r) e }

pub goes_until : {V : Type 0} {R : Rule V} (E : End) {F G : End} {i x : ℕ} → ((j m : ℕ) → E j m → F j m) → Goes R F i G x → Goes R E i G x
goes_until E g f = record { goes = λ j m v r e. f.goes j m v r (g j m e) }

-- right here, where this holds
pub goes_at : {V : Type 0} {R : Rule V} (D : ℕ → Type 0) {i x : ℕ} → Goes R (At D) i Here x → Goes R (At D) i (At D) x
goes_at D {i} {x} g = record { goes = λ j m v r (e, d). let h : m ≡ x = g.goes j m v r (e, d) in (sym h, subst D (e ∙ h) d) }

-- ---- the combinators, each by what is left of it

pub rest_seen : {A V : Type 0} (g : A → V) (R : Rule A) (E : End) (i : ℕ) → Rest (seen g R) E i R E i
rest_seen g R E i = record { rest = λ j m v (a, r, h) e. (j, a, r, e) }

pub rest_given : {V : Type 0} (P : Type 0) (R : Rule V) (E : End) (i : ℕ) → Rest (given P R) E i R E i
rest_given P R E i = record { rest = λ j m v (p, r) e. (j, v, r, e) }

pub refused_given : {V : Type 0} (P : Type 0) (R : Rule V) (E : End) (i : ℕ) → (P → ⊥) → Refused (given P R) E i
refused_given P R E i n = record { none = λ j m v (p, r) e. n p }

-- one alternative is left
pub rest_left : {V : Type 0} (R : Rule V) {S : Rule V} {E : End} {i : ℕ} → Refused S E i → Rest (R ∪ S) E i R E i
rest_left {V} R {S} {E} {i} n = record { rest = go }
  where
    go : (j m : ℕ) (v : V) → (R ∪ S) i j v → E j m → (k : ℕ) × (w : V) × R i k w × E k m
    go j m v (inl r) e = (j, v, r, e)
    go j m v (inr s) e = absurd (n.none j m v s e)

pub rest_right : {V : Type 0} {R : Rule V} (S : Rule V) {E : End} {i : ℕ} → Refused R E i → Rest (R ∪ S) E i S E i
rest_right {V} {R} S {E} {i} n = record { rest = go }
  where
    go : (j m : ℕ) (v : V) → (R ∪ S) i j v → E j m → (k : ℕ) × (w : V) × S i k w × E k m
    go j m v (inl r) e = absurd (n.none j m v r e)
    go j m v (inr s) e = (j, v, s, e)

-- what is left of each is what is left of both
pub rest_both : {V W : Type 0} {R S : Rule V} {T U : Rule W} {E F : End} {i x : ℕ} → Rest R E i T F x → Rest S E i U F x → Rest (R ∪ S) E i (T ∪ U) F x
rest_both {V} {W} {R} {S} {T} {U} {E} {F} {i} {x} f g = record { rest = go }
  where
    go : (j m : ℕ) (v : V) → (R ∪ S) i j v → E j m → (k : ℕ) × (w : W) × (T ∪ U) x k w × F k m
    go j m v (inl r) e = let (k, w, t, d) = f.rest j m v r e in (k, w, inl t, d)
    go j m v (inr s) e = let (k, w, u, d) = g.rest j m v s e in (k, w, inr u, d)

pub refused_either : {V : Type 0} {R S : Rule V} {E : End} {i : ℕ} → Refused R E i → Refused S E i → Refused (R ∪ S) E i
refused_either {V} {R} {S} {E} {i} f g = record { none = go }
  where
    go : (j m : ℕ) (v : V) → (R ∪ S) i j v → E j m → ⊥
    go j m v (inl r) e = f.none j m v r e
    go j m v (inr s) e = g.none j m v s e

-- a span before: the place where it ends
pub rest_before : {V : Type 0} (R : Span) (S : Rule V) (E : End) (D : ℕ → Type 0) (i k : ℕ) → Starts S E D → ((l : ℕ) → R i l → D l → l ≡ k) → Rest (R ▸ S) E i S E k
rest_before R S E D i k s t = record { rest = λ j m v (l, r, u) e. (j, v, subst (λ x. S x j v) (t l r (s l j m v u e)) u, e) }

pub refused_before : {V : Type 0} (R : Span) (S : Rule V) (E : End) (D : ℕ → Type 0) (i : ℕ) → Starts S E D → ((l : ℕ) → R i l → D l → ⊥) → Refused (R ▸ S) E i
refused_before R S E D i s t = record { none = λ j m v (l, r, u) e. t l r (s l j m v u e) }

-- two rules
pub rest_joined : {A : Type 0} {R : Rule (List A)} (S : Rule (List A)) {E : End} {D : ℕ → Type 0} {i x : ℕ} → Starts S E D → Goes R (At D) i (At D) x → Rest (R ⨾ S) E i S E x
rest_joined S s g = record { rest = λ j m v (k, ys, zs, r, u, h) e. (j, zs, subst (λ y. S y j zs) (sym (g.goes k k ys r (refl, s k j m zs u e)).0) u, e) }

pub refused_joined : {A : Type 0} {R : Rule (List A)} (S : Rule (List A)) {E : End} {D : ℕ → Type 0} {i : ℕ} → Starts S E D → Refused R (At D) i → Refused (R ⨾ S) E i
refused_joined S s n = record { none = λ j m v (k, ys, zs, r, u, h) e. n.none k k ys r (refl, s k j m zs u e) }

-- ---- any number of times: the loop of a reader. D is how one more begins.

module _ {A : Type 0} {R : Rule (List A)} {E : End} (D : ℕ → Type 0) (starts : Starts R (More D E) D) (there : (j m : ℕ) → D m → E j m → ⊥) where
  -- after a first one that ends at x
  after : (i j k m x : ℕ) (zs : List A) → (More D E k m → More D E x m) → (More D E k k → More D E x k) → Any R j k zs → E j m → (l : ℕ) × (ws : List A) × any R x l ws × E l m
  after i j k m x zs f g (done a b) e = go (f (inr (subst (λ z. E z m) a e)))
    where
      go : More D E x m → (l : ℕ) × (ws : List A) × any R x l ws × E l m
      go (inl (h, d)) = absurd (there j m (subst D h d) e)
      go (inr d) = (x, [], done refl refl, d)
  after i j k m x zs f g (then p us vs r more b) e = let d = chain_start D starts j m k p us vs r more e in go d (g (inl (refl, d)))
    where
      go : D k → More D E x k → (l : ℕ) × (ws : List A) × any R x l ws × E l m
      go c (inl (h, d)) = (j, zs, subst (λ z. Any R j z zs) (sym h) (then p us vs r more b), e)
      go c (inr d) = absurd (there x k c d)

  more_any : (j m i : ℕ) (xs : List A) → Any R j i xs → E j m → (o : ℕ) × More D E i o
  more_any j m i xs (done a b) e = (m, inr (subst (λ z. E z m) a e))
  more_any j m i xs (then k ys zs r more h) e = (i, inl (refl, chain_start D starts j m i k ys zs r more e))

  -- the first, perhaps by another rule
  pub rest_first : {S : Rule (List A)} {i x : ℕ} → Goes S (More D E) i (More D E) x → Rest (S ⨾ any R) E i (any R) E x
  rest_first {S} {i} {x} g = record { rest = λ j m v (k, ys, zs, r, more, h) e. after i j k m x zs (λ d. g.goes k m ys r d) (λ d. g.goes k k ys r d) more e }

  pub refused_first : {S : Rule (List A)} {i : ℕ} → Refused S (More D E) i → Refused (S ⨾ any R) E i
  refused_first n = record { none = λ j m v (k, ys, zs, r, more, h) e. let (o, d) = more_any j m k zs more e in n.none k o ys r d }

  -- one more
  pub rest_more : {i x : ℕ} → D i → ((m : ℕ) → D i → E i m → ⊥) → Goes R (More D E) i (More D E) x → Rest (any R) E i (any R) E x
  rest_more {i} {x} b n g = record { rest = go }
    where
      go : (j m : ℕ) (v : List A) → any R i j v → E j m → (l : ℕ) × (ws : List A) × any R x l ws × E l m
      go j m v (done a c) e = absurd (n m b (subst (λ z. E z m) a e))
      go j m v (then k ys zs r more h) e = after i j k m x zs (λ d. g.goes k m ys r d) (λ d. g.goes k k ys r d) more e

  pub refused_more : {i : ℕ} → D i → ((m : ℕ) → D i → E i m → ⊥) → Refused R (More D E) i → Refused (any R) E i
  refused_more {i} b n f = record { none = go }
    where
      go : (j m : ℕ) (v : List A) → any R i j v → E j m → ⊥
      go j m v (done a c) e = n m b (subst (λ z. E z m) a e)
      go j m v (then k ys zs r more h) e = let (o, d) = more_any j m k zs more e in f.none k o ys r d

  -- the same where the text does not go on here
  pub rest_next : {i x : ℕ} → ((m : ℕ) → E i m → ⊥) → Goes R (More D E) i (More D E) x → Rest (any R) E i (any R) E x
  rest_next {i} {x} n g = record { rest = go }
    where
      go : (j m : ℕ) (v : List A) → any R i j v → E j m → (l : ℕ) × (ws : List A) × any R x l ws × E l m
      go j m v (done a c) e = absurd (n m (subst (λ z. E z m) a e))
      go j m v (then k ys zs r more h) e = after i j k m x zs (λ d. g.goes k m ys r d) (λ d. g.goes k k ys r d) more e

  pub refused_next : {i : ℕ} → ((m : ℕ) → E i m → ⊥) → Refused R (More D E) i → Refused (any R) E i
  refused_next {i} n f = record { none = go }
    where
      go : (j m : ℕ) (v : List A) → any R i j v → E j m → ⊥
      go j m v (done a c) e = n m (subst (λ z. E z m) a e)
      go j m v (then k ys zs r more h) e = let (o, d) = more_any j m k zs more e in f.none k o ys r d

  -- no more
  pub goes_done : {i : ℕ} → (D i → ⊥) → Goes (any R) E i E i
  goes_done {i} n = record { goes = go }
    where
      go : (j m : ℕ) (v : List A) → any R i j v → E j m → E i m
      go j m v (done a b) e = subst (λ z. E z m) a e
      go j m v (then k ys zs r more h) e = absurd (n (chain_start D starts j m i k ys zs r more e))
