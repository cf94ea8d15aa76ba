-- What a text denotes under each tag, by its form.
use Rattle.std.proofs.Common.{◌≡◌, ℕ, Bool, true, false, cond, ◌&&◌, ◌||◌, ◌==◌, if◌then◌else◌, Option, Some, None, List, [], ◌∷◌, codes, pos, refl, sym, ◌∙◌, ap, subst, arith}
use Rattle.std.specs.Prelude.{bytes_eq, is_some}
use Rattle.std.specs.List.{AllByRecursion}
use Rattle.std.specs.Char.{is_digit}
use Rattle.std.proofs.lemmas.Bool.{cond_both, eqb-true}
use Rattle.std.proofs.lemmas.Bool.Decides.{nat_tests}
use lib.Pointwise.{bytes_decides}
use Rattle.yaml_definitions.specs.model.Core.{not_a_number, one_of, are_digits, number_in, unsigned, after_prefix, digits_after, split_at, decimal_of, bool_of, int_of, float_of, is_null}
use Rattle.yaml_definitions.proofs.Members.{and_both}
use Rattle.yaml_core.specs.Form.{table_kind, form_kind, form_of, by_bool, infinity_words, nan_words}
use Rattle.yaml_core.specs.State.{is_e, is_point, all_digits, float_rest}
use Rattle.yaml_core.specs.Values.{Values, HasValues}
use Rattle.yaml_core.specs.declared.form.Form.{Form}
use Rattle.yaml_core.specs.declared.form.Form.TheVariants as forms
use Rattle.yaml_core.proofs.StateLemmas.{float_digit, float_other}
use Rattle.yaml_core.proofs.StartLemmas.{decimal_is}

-- what holds of each word holds of a text that is one of them
among : (P : List ℕ → Type 0) (words : List (List ℕ)) (x : List ℕ) → one_of words x ≡ true → AllByRecursion P words → P x
among P [] x h all = absurd (cc)
among P (w ∷ words) x h all = by (λ g. among P words x g all.1) (bytes_eq x w) refl
  where
    by : (one_of words x ≡ true → P x) → (b : Bool) → bytes_eq x w ≡ b → P x
    by more true e = subst P (sym ((bytes_decides x w).0 e)) all.0
    by more false e = more (ap (λ b. b || one_of words x) (sym e) ∙ h)

none : {A : Type 0} (o : Option A) → is_some o ≡ false → o ≡ None
none None e = refl
none (Some a) e = absurd (cc)

not_so : (b : Bool) → (b ≡ true → ⊥) → b ≡ false
not_so true h = absurd (h refl)
not_so false h = refl

-- ---- words

nulls : (x : List ℕ) → is_null x ≡ true → Values x true None None None
unfolding is_null bool_of int_of float_of decimal_of split_at
nulls x h =
    among (λ w. Values w true None None None) ([] ∷ codes "~" ∷ codes "null" ∷ codes "Null" ∷ codes "NULL" ∷ []) x h
    (record { null = refl; bool = refl; int = refl; float = refl }, (record { null = refl; bool = refl; int = refl; float = refl }, (record { null = refl; bool = refl; int = refl; float = refl }, (record { null = refl; bool = refl; int = refl; float = refl }, (record { null = refl; bool = refl; int = refl; float = refl }, tt)))))

abbrev true_words : List (List ℕ)
true_words = codes "true" ∷ codes "True" ∷ codes "TRUE" ∷ []

abbrev false_words : List (List ℕ)
false_words = codes "false" ∷ codes "False" ∷ codes "FALSE" ∷ []

trues : (x : List ℕ) → one_of true_words x ≡ true → Values x false (Some true) None None
unfolding is_null bool_of int_of float_of decimal_of split_at
trues x h =
    among (λ w. Values w false (Some true) None None) true_words x h
    (record { null = refl; bool = refl; int = refl; float = refl }, (record { null = refl; bool = refl; int = refl; float = refl }, (record { null = refl; bool = refl; int = refl; float = refl }, tt)))

falses : (x : List ℕ) → one_of false_words x ≡ true → Values x false (Some false) None None
unfolding is_null bool_of int_of float_of decimal_of split_at
falses x h =
    among (λ w. Values w false (Some false) None None) false_words x h
    (record { null = refl; bool = refl; int = refl; float = refl }, (record { null = refl; bool = refl; int = refl; float = refl }, (record { null = refl; bool = refl; int = refl; float = refl }, tt)))

nans : (x : List ℕ) → one_of nan_words x ≡ true → Values x false None None (Some not_a_number)
unfolding is_null bool_of int_of float_of
nans x h =
    among (λ w. Values w false None None (Some not_a_number)) nan_words x h
    (record { null = refl; bool = refl; int = refl; float = refl }, (record { null = refl; bool = refl; int = refl; float = refl }, (record { null = refl; bool = refl; int = refl; float = refl }, tt)))

-- ---- digits

pub digit_no_e : (c : ℕ) → is_digit c 10 ≡ true → is_e c ≡ false
digit_no_e c d = grind (arith, nat_tests)

pub digit_no_point : (c : ℕ) → is_digit c 10 ≡ true → is_point c ≡ false
digit_no_point c d = grind (arith, nat_tests)

all_float : (w : List ℕ) → all_digits 10 w ≡ true → float_rest true w ≡ true
unfolding float_rest split_at
all_float [] h = refl
all_float (c ∷ w) h =
    let p = and_both (is_digit c 10) (all_digits 10 w) h in
    float_digit true c w p.0 (digit_no_e c p.0) (digit_no_point c p.0) ∙ all_float w p.1

digits_float : (w : List ℕ) → are_digits 10 w ≡ true → float_rest false w ≡ true
digits_float [] h = absurd (cc)
digits_float (c ∷ w) h =
    let p = and_both (is_digit c 10) (all_digits 10 w) h in
    float_digit false c w p.0 (digit_no_e c p.0) (digit_no_point c p.0) ∙ all_float w p.1

decimals : (x : List ℕ) → is_null x ≡ false → bool_of x ≡ None → are_digits 10 (unsigned x) ≡ true → HasValues forms.Decimal x
unfolding int_of float_of
decimals x n b d =
    let q : one_of nan_words x ≡ false =
    not_so (one_of nan_words x) (λ h. let f : are_digits 10 (unsigned x) ≡ false = among (λ w. are_digits 10 (unsigned w) ≡ false) nan_words x h (refl, (refl, (refl, tt))) in let g : true ≡ false = sym d ∙ f in cc) in
    let i : one_of infinity_words (unsigned x) ≡ false =
    not_so (one_of infinity_words (unsigned x)) (λ h. let f : are_digits 10 (unsigned x) ≡ false = among (λ w. are_digits 10 w ≡ false) infinity_words (unsigned x) h (refl, (refl, (refl, tt))) in let g : true ≡ false = sym d ∙ f in cc) in
    (record { null = n; bool = b; int = rw d refl; float = rw (q, i) refl }, d, decimal_is x ∙ digits_float (unsigned x) d)

-- ---- a mark and digits

abbrev Marked : ℕ → ℕ → List ℕ → Type 0
Marked mark base x = (y : List ℕ) × (x ≡ 48 ∷ mark ∷ y) × (are_digits base y ≡ true)

marked_parts : (mark base : ℕ) (x : List ℕ) → is_some (digits_after base (after_prefix 48 mark x)) ≡ true → Marked mark base x
marked_parts mark base [] h = absurd (cc)
marked_parts mark base (c ∷ []) h = absurd (cc)
marked_parts mark base (c ∷ d ∷ y) h = by (c == 48 && d == mark) refl
  where
    last : (b : Bool) → is_some (cond b (Some (pos (number_in base y))) None) ≡ b
    last true = refl
    last false = refl

    by : (b : Bool) → (c == 48 && d == mark) ≡ b → Marked mark base (c ∷ d ∷ y)
    by true e =
        let p = and_both (c == 48) (d == mark) e in
        let k : c ≡ 48 = eqb-true c 48 p.0 in
        let m : d ≡ mark = eqb-true d mark p.1 in
        let h1 : is_some (digits_after base (Some y)) ≡ true = ap (λ b. is_some (digits_after base (cond b (Some y) None))) (sym e) ∙ h in
        (y, (λ i. k i ∷ m i ∷ y), sym (last (are_digits base y)) ∙ h1)
    by false e = let g : false ≡ true = ap (λ b. is_some (digits_after base (cond b (Some y) None))) (sym e) ∙ h in absurd (cc)

octals : (x : List ℕ) → is_some (digits_after 8 (after_prefix 48 111 x)) ≡ true → HasValues forms.Octal x
unfolding is_null bool_of int_of float_of
octals x h =
    let m = marked_parts 111 8 x h in
    let f : decimal_of (48 ∷ 111 ∷ m.0) ≡ None =
    none (decimal_of (48 ∷ 111 ∷ m.0)) (decimal_is (48 ∷ 111 ∷ m.0) ∙ (float_digit false 48 (111 ∷ m.0) refl refl refl ∙ float_other true 111 m.0 refl refl refl)) in
    subst (HasValues forms.Octal) (sym m.1) (record { null = refl; bool = refl; int = rw m.2 refl; float = f }, m.2)

hexadecimals : (x : List ℕ) → is_some (digits_after 16 (after_prefix 48 120 x)) ≡ true → HasValues forms.Hexadecimal x
unfolding is_null bool_of int_of float_of
hexadecimals x h =
    let m = marked_parts 120 16 x h in
    let f : decimal_of (48 ∷ 120 ∷ m.0) ≡ None =
    none (decimal_of (48 ∷ 120 ∷ m.0)) (decimal_is (48 ∷ 120 ∷ m.0) ∙ (float_digit false 48 (120 ∷ m.0) refl refl refl ∙ float_other true 120 m.0 refl refl refl)) in
    subst (HasValues forms.Hexadecimal) (sym m.1) (record { null = refl; bool = refl; int = rw m.2 refl; float = f }, m.2)

-- ---- each form

abbrev number_form : List ℕ → Form
number_form x =
    if are_digits 10 (unsigned x) then forms.Decimal
    else if is_some (digits_after 8 (after_prefix 48 111 x)) then forms.Octal
    else if is_some (digits_after 16 (after_prefix 48 120 x)) then forms.Hexadecimal
    else if one_of nan_words x then forms.NotANumber
    else if one_of infinity_words (unsigned x) then forms.Infinity
    else if is_some (decimal_of x) then forms.Float
    else forms.Other

no_int : (x : List ℕ) → are_digits 10 (unsigned x) ≡ false → is_some (digits_after 8 (after_prefix 48 111 x)) ≡ false → is_some (digits_after 16 (after_prefix 48 120 x)) ≡ false → int_of x ≡ None
unfolding int_of
no_int x d o h = rw (d, none (digits_after 8 (after_prefix 48 111 x)) o, none (digits_after 16 (after_prefix 48 120 x)) h) refl

numbers : (x : List ℕ) → is_null x ≡ false → bool_of x ≡ None → HasValues (number_form x) x
unfolding float_of
numbers x n b =
    let P : Form → Type 0 = λ f. HasValues f x in
    cond_both (are_digits 10 (unsigned x)) _ _ P (λ d. decimals x n b d) (λ d.
    cond_both (is_some (digits_after 8 (after_prefix 48 111 x))) _ _ P (λ o. octals x o) (λ o.
    cond_both (is_some (digits_after 16 (after_prefix 48 120 x))) _ _ P (λ h. hexadecimals x h) (λ h.
    let i = no_int x d o h in
    cond_both (one_of nan_words x) _ _ P (λ q. nans x q) (λ q.
    cond_both (one_of infinity_words (unsigned x)) _ _ P (λ t. record { null = n; bool = b; int = i; float = rw (q, t) refl }) (λ t.
    cond_both (is_some (decimal_of x)) _ _ P (λ s. (record { null = n; bool = b; int = i; float = rw (q, t) refl }, s)) (λ s.
    record { null = n; bool = b; int = i; float = rw (q, t) (none (decimal_of x) s) }))))))

pub values : (x : List ℕ) → HasValues (form_of x) x
unfolding form_of bool_of
values x =
    cond_both (is_null x) _ _ (λ f. HasValues f x) (λ n. nulls x n) (λ n.
    cond_both (one_of true_words x) _ _ (λ o. HasValues (by_bool o (number_form x)) x) (λ t. trues x t) (λ t.
    cond_both (one_of false_words x) _ _ (λ o. HasValues (by_bool o (number_form x)) x) (λ f. falses x f) (λ f.
    numbers x n (rw (t, f) refl))))

-- ---- the kind

kinds_by : (f : Form) (x : List ℕ) → HasValues f x → form_kind f ≡ table_kind x
unfolding table_kind
kinds_by forms.Null x v = rw v.null refl
kinds_by forms.True x v = rw (v.null, v.bool) refl
kinds_by forms.False x v = rw (v.null, v.bool) refl
kinds_by forms.Decimal x v = rw (v.0.null, v.0.bool, v.0.int) refl
kinds_by forms.Octal x v = rw (v.0.null, v.0.bool, v.0.int) refl
kinds_by forms.Hexadecimal x v = rw (v.0.null, v.0.bool, v.0.int) refl
kinds_by forms.Float x v = rw (v.0.null, v.0.bool, v.0.int, v.0.float, v.1) refl
kinds_by forms.Infinity x v = rw (v.null, v.bool, v.int, v.float) refl
kinds_by forms.NotANumber x v = rw (v.null, v.bool, v.int, v.float) refl
kinds_by forms.Other x v = rw (v.null, v.bool, v.int, v.float) refl

pub kind_is : (x : List ℕ) → form_kind (form_of x) ≡ table_kind x
kind_is x = kinds_by (form_of x) x (values x)
