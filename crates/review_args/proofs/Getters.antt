-- What the getters of `clap` answer, by the rows that it found.
use Rattle.std.proofs.Common.{◌≡◌, ◌∙◌, ◌&&◌, ℕ, ◌^◌, Bool, true, false, List, [], ◌∷◌, ◌++◌, Option, Some, None, is_some, option_map, option_and_then, unwrap_or, refl, sym, ap, Result, Ok, Err, length, drop, subst, zero, suc, ◌+◌, ◌<◌, ◌≤◌, get_or, slice_index_or, arith, add-one}
use Rattle.std.specs.Option.{IfSome, IfNone}
use Rattle.std.specs.Prelude.{nat_lt}
use Rattle.std.specs.Borrow.{Bor}
use Rattle.std.specs.List.{list_all, Any}
use Rattle.std.proofs.Math.Seq.{drop-cons}
use Rattle.std.proofs.Math.ListN.{drop_of_length-le}
use Rattle.std.proofs.lemmas.List.{length-map}
use Rattle.std.specs.Char.{digit_value}
use Rattle.std.specs.Str.Parse.{AllDigits, ParsesUnsigned, digits_value, without_leading_plus}
use Rattle.std.proofs.lemmas.Bool.{ltb-true, lt-ltb}
use Rattle.clap.specs.Walk.{texts}
use Rattle.clap.specs.Words.{ReadsOne, Text, first_of, one_text, rows_of}
use Rattle.clap.specs.Matches.{first_value}
use Rattle.clap.specs.ValueTests.{is_numeral}
use Rattle.clap.specs.declared.parser.matches.Found.{Found}
use Rattle.clap.proofs.WalkLemmas.{both, first_value-rows, one_text-rows}
use Rattle.review_patterns.specs.Patterns.{IsPattern, steps_of}
use Rattle.review_patterns.specs.declared.pattern.Pattern.{Pattern}
use Rattle.review_args.specs.Words.{ArePatterns, number_in, number_of}

digits_pass : (ds : List ℕ) → AllDigits 10 ds → list_all (λ d. nat_lt (digit_value d) 10) ds ≡ true
digits_pass [] h = refl
digits_pass (d ∷ ds) h = rw (lt-ltb (digit_value d) 10 h.0) (digits_pass ds h.1)

digits_from : (ds : List ℕ) → list_all (λ d. nat_lt (digit_value d) 10) ds ≡ true → AllDigits 10 ds
digits_from [] e = tt
digits_from (d ∷ ds) e =
    let parts = both _ _ e in
    (ltb-true _ _ parts.0, digits_from ds parts.1)

abbrev is_number : List ℕ → Bool
is_number ds = is_numeral ds && nat_lt (digits_value 10 ds) (2 ^ 64)

number_read : {E : Type 0} (t : Text) (r : Result ℕ E) → ParsesUnsigned 64 10 t r → (n : ℕ) → r ≡ Ok n → Some n ≡ number_of t
number_read t (Ok m) h n e =
    let same : m ≡ n = cc in
    let ds = without_leading_plus t in
    rw (lt-ltb 0 (length ds) h.0.0.0, digits_pass ds h.0.0.1, lt-ltb (digits_value 10 ds) (2 ^ 64) h.0.1) (ap Some (sym same ∙ h.1))
number_read t (Err x) h n e = absurd (cc)

no_number : {E : Type 0} (t : Text) (r : Result ℕ E) → ParsesUnsigned 64 10 t r → (x : E) → r ≡ Err x → None ≡ number_of t
no_number t (Ok m) h x e = absurd (cc)
no_number t (Err y) h x e = go (is_number (without_leading_plus t)) refl
  where
    go : (b : Bool) → is_number (without_leading_plus t) ≡ b → None ≡ number_of t
    go false u = rw u refl
    go true u =
        let outer = both _ _ u in
        let inner = both _ _ outer.0 in
        absurd (h ((ltb-true _ _ inner.0, digits_from (without_leading_plus t) inner.1), ltb-true _ _ outer.1))

-- `get_one::<usize>` reads the number that the text writes
pub one_number : {E : Type 0} (G : List ℕ → Result ℕ E → Type 0) (f : Found) (id : Text) (r : Option ℕ) → (one_text f id ≡ None → r ≡ None) → ((t : List ℕ) → one_text f id ≡ Some t → ReadsOne G t r)
    → ((u : List ℕ) (x : Result ℕ E) → G u x → ParsesUnsigned 64 10 u x) → r ≡ number_in id (rows_of f)
one_number {E} G f id r none value only = go (one_text f id) refl ∙ ap (option_and_then number_of) (one_text-rows f id)
  where
    read : (t : Text) (o : Option ℕ) → ReadsOne G t o → o ≡ number_of t
    read t (Some n) h = number_read {E = E} t (Ok n) (only t (Ok n) h) n refl
    read t None h = no_number {E = E} t (Err h.0) (only t (Err h.0) h.1) h.0 refl

    go : (o : Option Text) → one_text f id ≡ o → r ≡ option_and_then number_of (one_text f id)
    go None e = none e ∙ sym (ap (option_and_then number_of) e)
    go (Some t) e = read t r (value t e) ∙ sym (ap (option_and_then number_of) e)

-- `get_str`
pub first_is : (f : Found) (id : Text) (r : Option (Bor Text)) → option_map (λ s. s.now) r ≡ first_value f id → option_map (λ s. s.now) r ≡ first_of id (rows_of f)
first_is f id r e = e ∙ first_value-rows f id

pub is_some_now : (r : Option (Bor Text)) → is_some r ≡ is_some (option_map (λ s. s.now) r)
is_some_now None = refl
is_some_now (Some s) = refl

pub unwrap_now : (r : Option (Bor Text)) (other : Bor Text) → (unwrap_or r other).now ≡ unwrap_or (option_map (λ s. s.now) r) other.now
unwrap_now None other = refl
unwrap_now (Some s) other = refl

-- one more pattern
pub are_more : (all : List Text) (patterns : List Pattern) (text : Text) (pattern : Pattern) → ArePatterns all patterns → IsPattern text (steps_of pattern)
    → ArePatterns (all ++ text ∷ []) (patterns ++ pattern ∷ [])
are_more [] [] text pattern h is = (is, tt)
are_more [] (p ∷ patterns) text pattern h is = absurd h
are_more (t ∷ all) [] text pattern h is = absurd h
are_more (t ∷ all) (p ∷ patterns) text pattern h is = (h.0, are_more all patterns text pattern h.1 is)

-- what is said of a pattern that was read
pub of_some : {X : Type 0} (P : X → Type 0) (o : Option X) (x : X) → o ≡ Some x → IfSome o P → P x
of_some P None x e h = absurd (cc)
of_some P (Some y) x e h =
    let same : y ≡ x = cc in
    subst P same h

-- what is said of a pattern that was not read
pub of_none : {X : Type 0} (P : Type 0) (o : Option X) → o ≡ None → IfNone o P → P
of_none P None e h = h
of_none P (Some x) e h = absurd (cc)

-- a test of all texts, one after another: of those from a place on the answer is that of all
rest_from : (list : List (Bor Text)) (i : ℕ) (d : Bor Text) → i < length list → drop i list ≡ get_or list i d ∷ drop (i + 1) list
rest_from list i d l = rw add-one (drop-cons list i d l)

all_from : (p : Text → Bool) (list : List (Bor Text)) (i : ℕ) (d : Bor Text) (b whole : Bool) → i < length list → list_all p (texts (drop i list)) ≡ whole → b ≡ p (get_or list i d).now → (b && list_all p (texts (drop (i + 1) list))) ≡ whole
all_from p list i d b whole l h e = ap (λ z. z && list_all p (texts (drop (i + 1) list))) e ∙ ap (λ z. list_all p (texts z)) (sym (rest_from list i d l)) ∙ h

pub all_next : (p : Text → Bool) (list : List (Bor Text)) (i : ℕ) (d : Bor Text) (b whole : Bool) → i < length list → list_all p (texts (drop i list)) ≡ whole → b ≡ p (get_or list i d).now → b ≡ true → list_all p (texts (drop (i + 1) list)) ≡ whole
all_next p list i d b whole l h e t = ap (λ z. z && list_all p (texts (drop (i + 1) list))) (sym t) ∙ all_from p list i d b whole l h e

pub all_stops : (p : Text → Bool) (list : List (Bor Text)) (i : ℕ) (d : Bor Text) (b whole : Bool) → i < length list → list_all p (texts (drop i list)) ≡ whole → b ≡ p (get_or list i d).now → b ≡ false → false ≡ whole
all_stops p list i d b whole l h e t = ap (λ z. z && list_all p (texts (drop (i + 1) list))) (sym t) ∙ all_from p list i d b whole l h e

pub all_ends : (p : Text → Bool) (list : List (Bor Text)) (i : ℕ) (whole : Bool) → length list ≤ i → list_all p (texts (drop i list)) ≡ whole → true ≡ whole
all_ends p list i whole l h = ap (λ z. list_all p (texts z)) (sym (drop_of_length-le list l)) ∙ h

-- a text at a place is one of all
pub any_text : (P : Text → Type 0) (items : List (Bor Text)) (i : ℕ) (d : Bor Text) → i < length items → P (get_or items i d).now → Any P (texts items)
any_text P items i d l h = (i, (get_or items i d).now, subst (λ n. i < n) (sym (length-map items (λ s. s.now))) l, there items i d (get_or items i d).now l, h)
  where
    there : (items : List (Bor Text)) (i : ℕ) (d : Bor Text) (e : Text) → i < length items → slice_index_or (texts items) i e ≡ (get_or items i d).now
    there [] i d e l = absurd (omega (arith, l))
    there (x ∷ xs) zero d e l = refl
    there (x ∷ xs) (suc i) d e l = there xs i d e (omega (arith, l))
