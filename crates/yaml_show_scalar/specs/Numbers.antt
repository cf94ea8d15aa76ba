-- Floats as people write them.
use Rattle.std.specs.Prelude.{ℕ, Bool, ◌||◌, ◌&&◌, ◌==◌, ◌-◌, cond, nat_le, List, [], ◌∷◌, ◌++◌, length, take, drop, codes, bytes_eq}
use Rattle.std.specs.List.{before_first, after_first, list_all}
use Rattle.std.specs.declared.option.Option.{Option}
use Rattle.std.specs.declared.option.Option.TheVariants.{None, Some}
use Rattle.yaml_show_scalar.specs.Texts.{times, ends_in, behind}

-- the canonical content is `.inf`, `-.inf` or `.nan`
unfoldable pub is_in_words : List ℕ → Bool
is_in_words x = ends_in 102 x || ends_in 110 x

-- how many zeros stand between the point and the digits of a float below 1, by its exponent, where that is from -1 to -4
unfoldable pub zeros_before : List ℕ → Option ℕ
zeros_before e =
    cond (bytes_eq e (codes "-1")) (Some 0) (cond (bytes_eq e (codes "-2")) (Some 1) (cond (bytes_eq e (codes "-3")) (Some 2) (cond (bytes_eq e (codes "-4")) (Some 3) None)))

-- how many digits behind the first one stand before the point, by an exponent from 0 to 15
unfoldable pub digits_before : List ℕ → Option ℕ
digits_before e =
    cond (bytes_eq e []) (Some 0) (cond (bytes_eq e (codes "+1")) (Some 1) (cond (bytes_eq e (codes "+2")) (Some 2) (cond (bytes_eq e (codes "+3")) (Some 3)
    (cond (bytes_eq e (codes "+4")) (Some 4) (cond (bytes_eq e (codes "+5")) (Some 5) (cond (bytes_eq e (codes "+6")) (Some 6) (cond (bytes_eq e (codes "+7")) (Some 7)
    (cond (bytes_eq e (codes "+8")) (Some 8) (cond (bytes_eq e (codes "+9")) (Some 9) (cond (bytes_eq e (codes "+10")) (Some 10) (cond (bytes_eq e (codes "+11")) (Some 11)
    (cond (bytes_eq e (codes "+12")) (Some 12) (cond (bytes_eq e (codes "+13")) (Some 13) (cond (bytes_eq e (codes "+14")) (Some 14) (cond (bytes_eq e (codes "+15")) (Some 15) None)))))))))))))))

-- a digit of base 10
abbrev pub is_digit : ℕ → Bool
is_digit b = nat_le 48 b && nat_le b 57

-- the digits behind the first one, with the point behind so many of them; zeros stand in for those that are wanting
unfoldable pub pointed : List ℕ → ℕ → List ℕ
pointed rest n = cond (nat_le (length rest) n) (rest ++ (times (n - length rest) (48 ∷ []) ++ codes ".0")) (take n rest ++ (46 ∷ drop n rest))

-- a float by its first digit, its further digits and its exponent, with that
abbrev pub with_exponent : List ℕ → List ℕ → List ℕ → List ℕ
with_exponent first rest e = first ++ (46 ∷ (cond (length rest == 0) (48 ∷ []) rest ++ (101 ∷ e)))

-- by how many digits stand before the point, where what stands behind the first digit is digits, as in each canonical content
abbrev pub great_or : Option ℕ → List ℕ → List ℕ → List ℕ → List ℕ
great_or None first rest e = with_exponent first rest e
great_or (Some n) first rest e = cond (list_all is_digit rest) (first ++ pointed rest n) (with_exponent first rest e)

-- a float below 1 with so many zeros behind the point
abbrev pub small_text : ℕ → List ℕ → List ℕ → List ℕ
small_text n first rest = codes "0." ++ (times n (48 ∷ []) ++ (first ++ rest))

-- by how many zeros stand behind the point
abbrev pub small_or : Option ℕ → List ℕ → List ℕ → List ℕ → List ℕ
small_or None first rest e = great_or (digits_before e) first rest e
small_or (Some n) first rest e = small_text n first rest

-- A float without its sign: without an exponent if that is from -4 to 15.
unfoldable pub digits_text : List ℕ → List ℕ
digits_text x =
    let front = before_first (λ b. b == 101) x in
    let e = after_first (λ b. b == 101) x in
    small_or (zeros_before e) (before_first (λ b. b == 46) front) (after_first (λ b. b == 46) front) e

-- with the sign, where there is one
abbrev pub signed_or : Option (List ℕ) → List ℕ → List ℕ
signed_or None x = digits_text x
signed_or (Some digits) x = 45 ∷ digits_text digits

-- a float by its canonical content
unfoldable pub float_text : List ℕ → List ℕ
float_text x = cond (is_in_words x) x (signed_or (behind (45 ∷ []) x) x)
