-- What a text begins with: digits, a name, or what stands before the first step.
use Rattle.std.proofs.Common.{◌≡◌, ℕ, suc, ◌+◌, ◌==◌, ◌≤◌, ◌<◌, ◌^◌, ◌⊎◌, inl, inr, Bool, true, false, not, ◌&&◌, nat_lt, nat_le, bytes_eq, List, [], ◌∷◌, ◌++◌, length, take, cond, Some, refl, sym, ◌∙◌, ap, subst, arith}
use Rattle.std.specs.List.{list_all, prefix_len}
use Rattle.std.proofs.lemmas.Slice.Eq.{bytes_eq-Decides}
use Rattle.review_patterns.specs.Grammar.{is_name_start, is_name_byte, is_name, name_len, begins_step, at_step, begins_with, IsNamed, is_document}
use Rattle.review_patterns.specs.Places.{is_digit, are_digits, is_number, first_part, last_part, first_place, last_place, is_span, is_place}
use Rattle.review_patterns.proofs.PlaceLaws.{parts-pass}
use Rattle.std.specs.Str.Parse.{digits_value}
use Rattle.review_patterns.proofs.ByteLaws.{is, among, never, or-cases, and-left, and-right, and-both}
use Rattle.review_patterns.specs.Classes.{passes}
use Rattle.review_patterns.specs.declared.name.Class.TheVariants as class

-- no element that passes follows
abbrev pub Stops : {X : Type 0} → (X → Bool) → List X → Type 0
Stops p [] = Unit {0}
Stops p (x ∷ xs) = p x ≡ false

all-left : {X : Type 0} (p : X → Bool) (x : X) (xs : List X) → list_all p (x ∷ xs) ≡ true → p x ≡ true
all-left p x xs h = and-left (p x) (list_all p xs) h

all-right : {X : Type 0} (p : X → Bool) (x : X) (xs : List X) → list_all p (x ∷ xs) ≡ true → list_all p xs ≡ true
all-right p x xs h = and-right (p x) (list_all p xs) h

all-both : {X : Type 0} (p : X → Bool) (x : X) (xs : List X) → p x ≡ true → list_all p xs ≡ true → list_all p (x ∷ xs) ≡ true
all-both p x xs h k = and-both (p x) (list_all p xs) h k

-- ---- the front of a list

one-plus : (n : ℕ) → 1 + n ≡ suc n
one-plus n = omega arith

pub front-passes : {X : Type 0} (p : X → Bool) (xs : List X) → list_all p (take (prefix_len p xs) xs) ≡ true
front-passes p [] = refl
front-passes p (x ∷ xs) = by (front-passes p xs) (p x) refl
  where
    by : list_all p (take (prefix_len p xs) xs) ≡ true → (b : Bool) → p x ≡ b → list_all p (take (cond (p x) (1 + prefix_len p xs) 0) (x ∷ xs)) ≡ true
    by more true e = ap (λ z. list_all p (take (cond z (1 + prefix_len p xs) 0) (x ∷ xs))) e ∙ ap (λ z. list_all p (take z (x ∷ xs))) (one-plus (prefix_len p xs)) ∙ all-both p x (take (prefix_len p xs) xs) e more
    by more false e = ap (λ z. list_all p (take (cond z (1 + prefix_len p xs) 0) (x ∷ xs))) e

pub front-len : {X : Type 0} (p : X → Bool) (a b : List X) → list_all p a ≡ true → Stops p b → prefix_len p (a ++ b) ≡ length a
front-len p [] [] h s = refl
front-len p [] (x ∷ b) h s = ap (λ z. cond z (1 + prefix_len p b) 0) s
front-len p (x ∷ a) b h s = ap (λ z. cond z (1 + prefix_len p (a ++ b)) 0) (all-left p x a h) ∙ ap (λ z. 1 + z) (front-len p a b (all-right p x a h) s) ∙ one-plus (length a)

pub all-weaker : (p q : ℕ → Bool) → ((c : ℕ) → p c ≡ true → q c ≡ true) → (x : List ℕ) → list_all p x ≡ true → list_all q x ≡ true
all-weaker p q f [] h = refl
all-weaker p q f (c ∷ x) h = all-both q c x (f c (all-left p c x h)) (all-weaker p q f x (all-right p c x h))

-- ---- names

plus-one : (n : ℕ) → n + 1 ≡ suc n
plus-one n = omega arith

name-front : (text : List ℕ) → 0 < name_len text → is_name (take (name_len text) text) ≡ true
name-front [] h = absurd (omega (arith, h))
name-front (c ∷ x) h = by (is_name_start c) refl
  where
    by : (b : Bool) → is_name_start c ≡ b → is_name (take (cond (is_name_start c) (prefix_len is_name_byte x + 1) 0) (c ∷ x)) ≡ true
    by true e =
        ap (λ z. is_name (take (cond z (prefix_len is_name_byte x + 1) 0) (c ∷ x))) e ∙ ap (λ z. is_name (take z (c ∷ x))) (plus-one (prefix_len is_name_byte x))
        ∙ and-both (is_name_start c) (list_all is_name_byte (take (prefix_len is_name_byte x) x)) e (front-passes is_name_byte x)
    by false e =
        let k : 0 < 0 = subst (λ z. 0 < cond z (prefix_len is_name_byte x + 1) 0) e h in
        absurd (omega (arith, k))

pub named-step : (text : List ℕ) (n : ℕ) → n ≡ name_len text → 0 < n → IsNamed (take n text)
named-step text n e h = inr (subst (λ z. is_name (take z text) ≡ true) (sym e) (name-front text (subst (λ z. 0 < z) e h)))

no-name-byte : (c : ℕ) → begins_step c ≡ true → is_name_byte c ≡ false
no-name-byte c h = among (λ z. is_name_byte z ≡ false) c 46 91 h refl refl

stops-name : (more : List ℕ) → at_step more ≡ true → Stops is_name_byte more
stops-name [] h = tt
stops-name (c ∷ x) h = no-name-byte c h

no-star : (c : ℕ) → is_name_start c ≡ true → (c == 42) ≡ false
no-star c h = by (c == 42) refl
  where
    by : (b : Bool) → (c == 42) ≡ b → (c == 42) ≡ false
    by true e = never (is_name_start c) h (subst (λ z. is_name_start z ≡ false) (sym (is c 42 e)) refl)
    by false e = e

pub any-step : (text : List ℕ) → begins_with 42 text ≡ true → (1 ≤ length text) × IsNamed (take 1 text)
any-step [] h = never false h refl
any-step (c ∷ x) h = (omega arith, inl (ap (λ z. z ∷ []) (is c 42 h)))

one-len : {X : Type 0} (xs : List X) (x : X) → xs ≡ x ∷ [] → Some 1 ≡ Some (length xs)
one-len xs x e = ap (λ z. Some (length z)) (sym e)

pub any-whole : (text rest more : List ℕ) → begins_with 42 text ≡ true → IsNamed rest → text ≡ rest ++ more → Some 1 ≡ Some (length rest)
any-whole text rest more h (inl e) t = one-len rest 42 e
any-whole text [] more h (inr n) t = never false n refl
any-whole text (c ∷ x) more h (inr n) t = never (c == 42) (sym (ap (begins_with 42) t) ∙ h) (no-star c (and-left (is_name_start c) (list_all is_name_byte x) n))

pub name-whole : (text rest more : List ℕ) → begins_with 42 text ≡ false → IsNamed rest → at_step more ≡ true → text ≡ rest ++ more → (name_len text ≡ length rest) × (0 < length rest)
name-whole text rest more h (inl e) a t = never (begins_with 42 text) (ap (begins_with 42) (t ∙ ap (λ z. z ++ more) e)) h
name-whole text [] more h (inr n) a t = never false n refl
name-whole text (c ∷ x) more h (inr n) a t =
    (ap name_len t ∙ ap (λ z. cond z (prefix_len is_name_byte (x ++ more) + 1) 0) (and-left (is_name_start c) (list_all is_name_byte x) n) ∙ ap (λ z. z + 1) (front-len is_name_byte x more (and-right (is_name_start c) (list_all is_name_byte x) n) (stops-name more a)) ∙ plus-one (length x), omega arith)

-- ---- the step for the document

abbrev no-step : ℕ → Bool
no-step c = not (begins_step c)

digit-no-step : (c : ℕ) → is_digit c ≡ true → no-step c ≡ true
digit-no-step c h = by (begins_step c) refl
  where
    by : (b : Bool) → begins_step c ≡ b → no-step c ≡ true
    by true e = never (is_digit c) h (among (λ z. is_digit z ≡ false) c 46 91 e refl refl)
    by false e = ap not e

digits-no-step : (x : List ℕ) → are_digits x ≡ true → list_all no-step x ≡ true
digits-no-step [] h = refl
digits-no-step (c ∷ x) h = all-both no-step c x (digit-no-step c (and-left (is_digit c) (list_all is_digit x) h)) (all-weaker is_digit no-step digit-no-step x (and-right (is_digit c) (list_all is_digit x) h))

number-no-step : (x : List ℕ) → is_number x ≡ true → list_all no-step x ≡ true
number-no-step x h = digits-no-step x (and-left (are_digits x) (nat_lt (digits_value 10 x) (2 ^ 64)) h)

span-no-step : (x : List ℕ) → is_span x ≡ true → list_all no-step x ≡ true
span-no-step x h =
    let both : (is_number (first_part 45 x) && is_number (last_part 45 x)) ≡ true = and-left (is_number (first_part 45 x) && is_number (last_part 45 x)) (nat_le (first_place x) (last_place x)) h in
    parts-pass no-step 45 x refl (number-no-step (first_part 45 x) (and-left (is_number (first_part 45 x)) (is_number (last_part 45 x)) both)) (number-no-step (last_part 45 x) (and-right (is_number (first_part 45 x)) (is_number (last_part 45 x)) both))

place-no-step : (x : List ℕ) → is_place x ≡ true → list_all no-step x ≡ true
place-no-step x h = parts-pass no-step 58 x refl (span-no-step (first_part 58 x) (and-left (is_span (first_part 58 x)) (is_span (last_part 58 x)) h)) (span-no-step (last_part 58 x) (and-right (is_span (first_part 58 x)) (is_span (last_part 58 x)) h))

document-no-step : (x : List ℕ) → is_document x ≡ true → list_all no-step x ≡ true
document-no-step [] h = refl
document-no-step (c ∷ x) h = by (or-cases (bytes_eq (c ∷ x) (42 ∷ [])) (is_place (c ∷ x)) h)
  where
    by : (bytes_eq (c ∷ x) (42 ∷ []) ≡ true) ⊎ (is_place (c ∷ x) ≡ true) → list_all no-step (c ∷ x) ≡ true
    by (inl e) = ap (list_all no-step) ((bytes_eq-Decides (c ∷ x) (42 ∷ [])).0 e)
    by (inr e) = place-no-step (c ∷ x) e

stops-document : (more : List ℕ) → at_step more ≡ true → Stops no-step more
stops-document [] h = tt
stops-document (c ∷ x) h = ap not h

pub document-len : (text document more : List ℕ) → is_document document ≡ true → at_step more ≡ true → text ≡ document ++ more → prefix_len (passes class.Document) text ≡ length document
document-len text document more h a t = ap (prefix_len no-step) t ∙ front-len no-step document more (document-no-step document h) (stops-document more a)
