-- How productions are put together. A span lies between two places of a text; a rule also has a value. Place i stands before the ith character.
-- Read `R ◆ S` and `R ▸ S` as "R, then S", `R ◂ S` as "R, and S behind it" (the value is that of the rule), `R ⨾ S` as "R, then
-- S, with both lists of events", `R ⊔ S` and `R ∪ S` as "R or S"; `seen f R` is R with its value put through f.
-- Nothing in this file is a production. In the other files of this folder the comment before a definition gives its production by
-- the number that YAML 1.2.2 gives it, with the section in parentheses, or says that it is none.
use Rattle.std.specs.Prelude.{◌≡◌, ℕ, zero, suc, ◌+◌, ◌-◌, ◌<◌, ◌≤◌, ◌⊎◌, Bool, true, Option, Some, List, [], ◌∷◌, ◌++◌, slice_get, slice_range}

abbrev pub Span : Type 1
Span = ℕ → ℕ → Type 0

abbrev pub Rule : Type 0 → Type 1
Rule V = ℕ → ℕ → V → Type 0

infixr 14 ◌◆◌
infixl 13 ◌◂◌
infixr 12 ◌▸◌
infixr 11 ◌⨾◌
infixr 10 ◌∪◌ ◌⊔◌
-- ---- one after another, and either of two

-- one span and then another; either of two
abbrev pub ◌◆◌ : Span → Span → Span
(R ◆ S) i j = (k : ℕ) × R i k × S k j

abbrev pub ◌⊔◌ : Span → Span → Span
(R ⊔ S) i j = R i j ⊎ S i j

-- a span, then a rule; a rule, then a span. The value is the rule's
abbrev pub ◌▸◌ : {V : Type 0} → Span → Rule V → Rule V
(R ▸ S) i j v = (k : ℕ) × R i k × S k j v

abbrev pub ◌◂◌ : {V : Type 0} → Rule V → Span → Rule V
(R ◂ S) i j v = (k : ℕ) × R i k v × S k j

-- one rule and then another, with their lists joined; either of two
abbrev pub ◌⨾◌ : {A : Type 0} → Rule (List A) → Rule (List A) → Rule (List A)
◌⨾◌ {A} R S i j xs = (k : ℕ) × (ys : List A) × (zs : List A) × R i k ys × S k j zs × (xs ≡ ys ++ zs)

abbrev pub ◌∪◌ : {V : Type 0} → Rule V → Rule V → Rule V
(R ∪ S) i j v = R i j v ⊎ S i j v

-- a rule, and then one that takes its value
abbrev pub with_value : {A V : Type 0} → Rule A → (A → Rule V) → Rule V
with_value {A} R S i j v = (k : ℕ) × (a : A) × R i k a × S a k j v

-- for some number
abbrev pub some : {V : Type 0} → (ℕ → Rule V) → Rule V
some R i j v = (a : ℕ) × R a i j v

-- ---- nothing

abbrev pub nowhere : Span
nowhere i j = j ≡ i

-- with this value
abbrev pub gives : {V : Type 0} → V → Rule V
gives v i j w = (j ≡ i) × (w ≡ v)

abbrev pub maybe : Span → Span
maybe R = nowhere ⊔ R

abbrev pub optional : {A : Type 0} → Rule (List A) → Rule (List A)
optional R = gives [] ∪ R

-- no reading at all
abbrev pub never : {V : Type 0} → Rule V
never i j v = ⊥

-- ---- values

-- with what f makes of the value
abbrev pub seen : {A V : Type 0} → (A → V) → Rule A → Rule V
seen {A} f R i j v = (a : A) × R i j a × (v ≡ f a)

-- the same where f may refuse it
abbrev pub mapped : {A V : Type 0} → (A → Option V) → Rule A → Rule V
mapped {A} f R i j v = (a : A) × R i j a × (f a ≡ Some v)

-- ---- conditions

-- this holds
abbrev pub given : {V : Type 0} → Type 0 → Rule V → Rule V
given P R i j v = P × R i j v

-- of the two places; of the value
abbrev pub limited : (ℕ → ℕ → Type 0) → Span → Span
limited P R i j = P i j × R i j

abbrev pub where_both : {V : Type 0} → (ℕ → ℕ → Type 0) → Rule V → Rule V
where_both P R i j v = P i j × R i j v

abbrev pub where_value : {V : Type 0} → (V → Type 0) → Rule V → Rule V
where_value P R i j v = P v × R i j v

-- of the place here, with nothing taken
abbrev pub ahead : (ℕ → Type 0) → Span
ahead P i j = (j ≡ i) × P i

-- the value of what stands here, with nothing taken
abbrev pub looking : {V : Type 0} → Rule V → Rule V
looking R i j v = (j ≡ i) × (k : ℕ) × R i k v

-- at each place from i and before j
abbrev pub Throughout : (ℕ → Type 0) → ℕ → ℕ → Type 0
Throughout P i j = (k : ℕ) → i ≤ k → k < j → P k

-- the span begins here; it ends here
abbrev pub Begins : Span → ℕ → Type 0
Begins R i = (j : ℕ) × R i j

abbrev pub Ends : Span → ℕ → Type 0
Ends R j = (i : ℕ) × R i j

-- no reading ends later
abbrev pub furthest : {V : Type 0} → Rule V → Rule V
furthest {V} R i j v = R i j v × ((k : ℕ) (w : V) → R i k w → k ≤ j)

abbrev pub furthest_span : Span → Span
furthest_span R i j = R i j × ((k : ℕ) → R i k → k ≤ j)

-- ---- any number of times

pub data Any {A : Type 0} (R : Rule (List A)) (j : ℕ) : ℕ → List A → Type 0 where
  done : {i : ℕ} {xs : List A} → j ≡ i → xs ≡ [] → Any R j i xs
  then : {i : ℕ} {xs : List A} (k : ℕ) (ys zs : List A) → R i k ys → Any R j k zs → xs ≡ ys ++ zs → Any R j i xs

abbrev pub any : {A : Type 0} → Rule (List A) → Rule (List A)
any R i j xs = Any R j i xs

-- at least once
abbrev pub any_one : {A : Type 0} → Rule (List A) → Rule (List A)
any_one R = R ⨾ any R

pub data Spans (R : Span) (j : ℕ) : ℕ → Type 0 where
  done : {i : ℕ} → j ≡ i → Spans R j i
  then : {i : ℕ} (k : ℕ) → R i k → Spans R j k → Spans R j i

abbrev pub any_span : Span → Span
any_span R i j = Spans R j i

abbrev pub any_one_span : Span → Span
any_one_span R = R ◆ any_span R

abbrev pub times : ℕ → Span → Span
times zero R = nowhere
times (suc n) R = R ◆ times n R

-- with how often as value
abbrev pub counted : Span → Rule ℕ
counted R i j n = times n R i j

-- ---- characters

module _ (cs : List ℕ) where
  -- a character that passes the test stands at i; it stands just before i
  abbrev pub Stands : (ℕ → Bool) → ℕ → Type 0
  Stands p i = (c : ℕ) × (slice_get cs i ≡ Some c) × (p c ≡ true)

  abbrev pub Behind : (ℕ → Bool) → ℕ → Type 0
  Behind p i = (0 < i) × Stands p (i - 1)

  -- one character, where this holds of its place
  abbrev pub at : (ℕ → Type 0) → Span
  at P i j = P i × (j ≡ i + 1)

  -- one character that passes the test; the same with it as value
  abbrev pub one : (ℕ → Bool) → Span
  one p i j = Stands p i × (j ≡ i + 1)

  abbrev pub letter : (ℕ → Bool) → Rule ℕ
  letter p i j c = (slice_get cs i ≡ Some c) × (p c ≡ true) × (j ≡ i + 1)

  -- this character; these characters
  abbrev pub chr : ℕ → Span
  chr c i j = (slice_get cs i ≡ Some c) × (j ≡ i + 1)

  abbrev pub word : List ℕ → Span
  word [] = nowhere
  word (c ∷ xs) = chr c ◆ word xs

  -- any characters at whose places this holds
  abbrev pub stretch : (ℕ → Type 0) → Span
  stretch P i j = (i ≤ j) × Throughout P i j

  -- any characters that pass the test; one or more; as many as stand there, and at least one; exactly n
  abbrev pub run : (ℕ → Bool) → Span
  run p i j = (i ≤ j) × Throughout (Stands p) i j

  abbrev pub some_run : (ℕ → Bool) → Span
  some_run p i j = run p i j × (i < j)

  abbrev pub whole_run : (ℕ → Bool) → Span
  whole_run p i j = run p i j × (i < j) × (Stands p j → ⊥)

  abbrev pub exactly : ℕ → (ℕ → Bool) → Span
  exactly n p i j = run p i j × (j ≡ i + n)

  -- any characters that pass the test, with how many as value
  abbrev pub how_many : (ℕ → Bool) → Rule ℕ
  how_many p i j n = exactly n p i j

  -- the text between the places
  abbrev pub copied : Span → Rule (List ℕ)
  copied R i j xs = R i j × (xs ≡ slice_range cs i j)
