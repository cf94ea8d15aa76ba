-- A character is read back from its spelling, and what follows stays.
use Rattle.std.proofs.Common.{◌≡◌, ℕ, cond, ◌+◌, ◌-◌, ◌*◌, ◌/◌, ◌%◌, ◌<◌, ◌==◌, nat_lt, true, false, inl, inr, List, [], ◌∷◌, ◌++◌, sym, ◌∙◌, ap, arith}
use Rattle.std.proofs.lemmas.Bool.{cond_both, eqb-true, eqb-false, ltb-true}
use Rattle.std.proofs.lemmas.Bool.Decides.{nat_tests}
use Rattle.std.specs.declared.option.Option.{Option}
use Rattle.std.specs.declared.option.Option.TheVariants.{None, Some}
use lib.Utf8.{scalar, scalar_cases}
use Rattle.yaml_definitions.specs.canonical.CharText.{is_plain, hex_digit, spell_char}

pub heads : {a b : ℕ} {r s : List ℕ} → ◌≡◌ {A = List ℕ} (a ∷ r) (b ∷ s) → a ≡ b
heads e = cc

pub tails : {a b : ℕ} {r s : List ℕ} → ◌≡◌ {A = List ℕ} (a ∷ r) (b ∷ s) → r ≡ s
tails e = cc

-- each character that is not written as itself has at most four hexadecimal digits
pub low : (c : ℕ) → scalar c ≡ true → is_plain c ≡ false → c < 65536
low c h p = elim (scalar_cases c h) [ inl a ↦ omega arith | inr a ↦ grind (arith, nat_tests) ]

abbrev pub hex_value : ℕ → ℕ
hex_value a = cond (nat_lt a 58) (a - 48) (a - 55)

abbrev pub two_digits : List ℕ → Option (ℕ × List ℕ)
two_digits (a ∷ b ∷ r) = Some (hex_value a * 16 + hex_value b, r)
two_digits _ = None

abbrev four_digits : List ℕ → Option (ℕ × List ℕ)
four_digits (a ∷ b ∷ c ∷ d ∷ r) = Some (((hex_value a * 16 + hex_value b) * 16 + hex_value c) * 16 + hex_value d, r)
four_digits _ = None

abbrev read_escape : List ℕ → Option (ℕ × List ℕ)
read_escape [] = None
read_escape (b ∷ r) = cond (b == 120) (two_digits r) (cond (b == 117) (four_digits r) (cond (b == 110) (Some (10, r)) (cond (b == 116) (Some (9, r)) (Some (b, r)))))

abbrev read_char : List ℕ → Option (ℕ × List ℕ)
read_char [] = None
read_char (a ∷ r) = cond (a == 92) (read_escape r) (Some (a, r))

hex_back : (d : ℕ) → d < 16 → hex_value (hex_digit d) ≡ d
hex_back d h = grind (arith, nat_tests)

pub value2 : (c : ℕ) → c < 256 → hex_value (hex_digit (c / 16)) * 16 + hex_value (hex_digit (c % 16)) ≡ c
value2 c h = rw (hex_back (c / 16) (omega arith), hex_back (c % 16) (omega arith)) (omega arith)

pub value4 : (c : ℕ) → c < 65536
    → ((hex_value (hex_digit (c / 4096)) * 16 + hex_value (hex_digit (c / 256 % 16))) * 16 + hex_value (hex_digit (c / 16 % 16))) * 16 + hex_value (hex_digit (c % 16)) ≡ c
value4 c h = rw (hex_back (c / 4096) (omega arith), hex_back (c / 256 % 16) (omega arith), hex_back (c / 16 % 16) (omega arith), hex_back (c % 16) (omega arith)) (omega arith)

abbrev Back : ℕ → List ℕ → List ℕ → Type 0
Back c r z = read_char (z ++ r) ≡ Some (c, r)

pub read_spelled : (c : ℕ) (r : List ℕ) → scalar c ≡ true → read_char (spell_char c ++ r) ≡ Some (c, r)
unfolding spell_char
read_spelled c r h =
    cond_both (c == 34) _ _ (Back c r) (λ e. ap (λ z. Some (z, r)) (sym (eqb-true c 34 e))) (λ n1.
    cond_both (c == 92) _ _ (Back c r) (λ e. ap (λ z. Some (z, r)) (sym (eqb-true c 92 e))) (λ n2.
    cond_both (c == 10) _ _ (Back c r) (λ e. ap (λ z. Some (z, r)) (sym (eqb-true c 10 e))) (λ n3.
    cond_both (c == 9) _ _ (Back c r) (λ e. ap (λ z. Some (z, r)) (sym (eqb-true c 9 e))) (λ n4.
    cond_both (is_plain c) _ _ (Back c r) (λ e. rw n2) (λ n5.
    cond_both (nat_lt c 256) _ _ (Back c r) (λ e. ap (λ z. Some (z, r)) (value2 c (ltb-true c 256 e))) (λ n6. ap (λ z. Some (z, r)) (value4 c (low c h n5))))))))

pub char_once : (c d : ℕ) (r s : List ℕ) → scalar c ≡ true → scalar d ≡ true → spell_char c ++ r ≡ spell_char d ++ s → (c ≡ d) × (r ≡ s)
char_once c d r s m n e =
    let p : ◌≡◌ {A = Option (ℕ × List ℕ)} (Some (c, r)) (Some (d, s)) = sym (read_spelled c r m) ∙ (ap read_char e ∙ read_spelled d s n) in
    let q : ◌≡◌ {A = ℕ × List ℕ} (c, r) (d, s) = cc in
    (ap (λ z. z.0) q, ap (λ z. z.1) q)

-- no spelling begins with a quote
abbrev NotQuote : List ℕ → List ℕ → List ℕ → Type 0
NotQuote r s z = z ++ r ≡ 34 ∷ s → ⊥

pub no_quote : (c : ℕ) (r s : List ℕ) → scalar c ≡ true → spell_char c ++ r ≡ 34 ∷ s → ⊥
unfolding spell_char
no_quote c r s h =
    cond_both (c == 34) _ _ (NotQuote r s) (λ e q. omega (arith, heads q)) (λ n1.
    cond_both (c == 92) _ _ (NotQuote r s) (λ e q. omega (arith, heads q)) (λ n2.
    cond_both (c == 10) _ _ (NotQuote r s) (λ e q. omega (arith, heads q)) (λ n3.
    cond_both (c == 9) _ _ (NotQuote r s) (λ e q. omega (arith, heads q)) (λ n4.
    cond_both (is_plain c) _ _ (NotQuote r s) (λ e q. eqb-false c 34 n1 (heads q)) (λ n5.
    cond_both (nat_lt c 256) _ _ (NotQuote r s) (λ e q. omega (arith, heads q)) (λ n6 q. omega (arith, heads q)))))))
