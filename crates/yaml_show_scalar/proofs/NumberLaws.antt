-- Digits are ASCII.
use Rattle.std.proofs.Common.{◌≡◌, ℕ, zero, suc, ◌<◌, ◌≤◌, true, List, [], ◌∷◌, length, arith}
use Rattle.std.specs.List.{list_all}
use Rattle.std.specs.Str.{IsAscii, IsCharBoundary}
use Rattle.std.proofs.lemmas.Bool.{and_parts}
use Rattle.std.proofs.lemmas.Bool.Decides.{nat_tests}
use Rattle.std.proofs.lemmas.Str.{IsCharBoundary-from_ascii}
use Rattle.yaml_show_scalar.specs.Numbers.{is_digit}

low : (b : ℕ) → is_digit b ≡ true → b < 128
low b h = grind (arith, nat_tests)

ascii : (xs : List ℕ) → list_all is_digit xs ≡ true → IsAscii xs
ascii [] h i = omega arith
ascii (b ∷ xs) h zero = low b (and_parts (is_digit b) (list_all is_digit xs) h).0
ascii (b ∷ xs) h (suc i) = ascii xs (and_parts (is_digit b) (list_all is_digit xs) h).1 i

pub border : (xs : List ℕ) (n : ℕ) → list_all is_digit xs ≡ true → n ≤ length xs → IsCharBoundary xs n
border xs n h l = IsCharBoundary-from_ascii xs n (ascii xs h) l
