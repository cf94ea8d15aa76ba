-- The ends of the ranges of ints and floats (YAML 1.2.2, 10.2.1.3 and 10.2.1.4, the ranges the profile's own).
use Rattle.std.proofs.Common.{◌≡◌, ℕ, ◌+◌, ◌==◌, nat_lt, true, false, Ok, Some, List, [], ◌∷◌, map, pos, negsuc, refl, sym, ◌∙◌, ap, arith}
use Rattle.std.specs.Prelude.{codes}
use Rattle.std.specs.List.{list_all}
use Rattle.std.specs.Char.{digit_value}
use Rattle.std.specs.Int.Digits.{digits_of, number_from_digits, AllBelowBase}
use Rattle.std.proofs.lemmas.Bool.{ne_eqb, ltb-true}
use Rattle.yaml_definitions.specs.model.Event.{plain, untagged}
use Rattle.yaml_definitions.specs.model.Tag.{core_tag, int_tag, float_tag}
use Rattle.yaml_definitions.specs.model.Core.{Resolved, decimal_value, resolve, by_table, null_of, bool_of, int_of, float_of, decimal_of, split_at, is_null, content_of, natural_text, int_text, decimal_text, trimmed, exponent}
use Rattle.yaml_definitions.proofs.Members.{and_both}
use Rattle.yaml_definitions.proofs.FloatLaws.{digits_number}
use Rattle.yaml_definitions.proofs.ResolveLaws.{number, content_is}
use Rattle.yaml_definitions.proofs.examples.Build.{Text}

-- what an untagged plain scalar denotes, the decimals of its numbers not yet computed
denoted : Text → Resolved
unfolding resolve by_table null_of bool_of int_of float_of decimal_of split_at is_null content_of int_text decimal_text trimmed exponent core_tag
denoted x = resolve untagged plain (codes x)

digits : Text → List ℕ
digits x = map digit_value (codes x)

are_below : (ds : List ℕ) → list_all (λ d. nat_lt d 10) ds ≡ true → AllBelowBase 10 ds
are_below [] h = tt
are_below (d ∷ ds) h = let p = and_both (nat_lt d 10) (list_all (λ d. nat_lt d 10) ds) h in (ltb-true d 10 p.0, are_below ds p.1)

-- the decimal of a number without leading zeros
decimal : (d : ℕ) (ds : List ℕ) → nat_lt 0 d ≡ true → list_all (λ d. nat_lt d 10) (d ∷ ds) ≡ true → natural_text (number_from_digits 10 (d ∷ ds)) ≡ map (λ d. 48 + d) (d ∷ ds)
unfolding natural_text
decimal d ds p m =
    let e : digits_of 10 (number_from_digits 10 (d ∷ ds)) ≡ d ∷ ds = digits_number d ds (ltb-true 0 d p) (are_below (d ∷ ds) m) in
    let n : (number_from_digits 10 (d ∷ ds) == 0) ≡ false = ne_eqb (number_from_digits 10 (d ∷ ds)) 0 (λ q. let f : [] ≡ d ∷ ds = ap (digits_of 10) (sym q) ∙ e in absurd (cc)) in
    rw (n, e) refl

greatest_int : denoted "170141183460469231731687303715884105727" ≡ Ok (int_tag, codes "170141183460469231731687303715884105727")
unfolding denoted digits
greatest_int = ap (λ z. Ok (int_tag, z)) (decimal 1 (digits "70141183460469231731687303715884105727") refl refl)

least_int : denoted "-170141183460469231731687303715884105728" ≡ Ok (int_tag, codes "-170141183460469231731687303715884105728")
unfolding denoted digits
least_int = ap (λ z. Ok (int_tag, 45 ∷ z)) (decimal 1 (digits "70141183460469231731687303715884105728") refl refl)

-- The greatest and the least exponent, however the number is written.
greatest_exponent : denoted "1e1000000" ≡ Ok (float_tag, codes "1e+1000000")
unfolding denoted digits
greatest_exponent = ap (λ z. Ok (float_tag, 49 ∷ 101 ∷ 43 ∷ z)) (decimal 1 (digits "000000") refl refl)

greatest_by_digits : denoted "10e999999" ≡ Ok (float_tag, codes "1e+1000000")
unfolding denoted digits
greatest_by_digits = ap (λ z. Ok (float_tag, 49 ∷ 101 ∷ 43 ∷ z)) (decimal 1 (digits "000000") refl refl)

greatest_by_the_point : denoted "0.1e1000001" ≡ Ok (float_tag, codes "1e+1000000")
unfolding denoted digits
greatest_by_the_point = ap (λ z. Ok (float_tag, 49 ∷ 101 ∷ 43 ∷ z)) (decimal 1 (digits "000000") refl refl)

least_exponent : denoted "-1e-1000000" ≡ Ok (float_tag, codes "-1e-1000000")
unfolding denoted digits
least_exponent = ap (λ z. Ok (float_tag, 45 ∷ 49 ∷ 101 ∷ 45 ∷ z)) (decimal 1 (digits "000000") refl refl)

-- A float is exact, however long.
long_value : float_of (codes "1.00000000000000000001") ≡ Some (decimal_value false 100000000000000000001 (negsuc 19))
unfolding float_of decimal_of split_at
long_value = refl

long_content : content_of (decimal_value false 100000000000000000001 (negsuc 19)) ≡ codes "1.00000000000000000001"
unfolding number digits trimmed
long_content = content_is false 1 (digits "00000000000000000001") (pos 0) (omega arith) (are_below (1 ∷ digits "00000000000000000001") refl) refl
