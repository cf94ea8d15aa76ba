-- The places of items in the text of a step.
use Rattle.std.specs.Prelude.{ℕ, Bool, false, ◌&&◌, ◌==◌, ◌^◌, ◌-◌, nat_le, nat_lt, bytes_eq, cond, List, [], ◌∷◌, length, take, drop, codes}
use Rattle.std.specs.List.{list_all, position_or_len, before_first, after_first}
use Rattle.std.specs.Str.Parse.{digits_value}

-- `[0-9]`
abbrev pub is_digit : ℕ → Bool
is_digit c = nat_le 48 c && nat_le c 57

-- `[0-9]+`
abbrev pub are_digits : List ℕ → Bool
are_digits [] = false
are_digits (c ∷ x) = is_digit c && list_all is_digit x

-- a number that a place can be
abbrev pub is_number : List ℕ → Bool
is_number text = are_digits text && nat_lt (digits_value 10 text) (2 ^ 64)

-- the part before the first such byte, or the whole text if it has none
abbrev pub first_part : ℕ → List ℕ → List ℕ
first_part separator text = before_first (λ byte. byte == separator) text

-- the part after it, or the whole text if it has none
abbrev pub last_part : ℕ → List ℕ → List ℕ
last_part separator text = cond (nat_lt (position_or_len (λ byte. byte == separator) text) (length text)) (after_first (λ byte. byte == separator) text) text

-- Neighbours on one side, by their first place and their last one: `3-5`, or `3` for one item.
abbrev pub first_place : List ℕ → ℕ
first_place text = digits_value 10 (first_part 45 text)

abbrev pub last_place : List ℕ → ℕ
last_place text = digits_value 10 (last_part 45 text)

abbrev pub is_span : List ℕ → Bool
is_span text = (is_number (first_part 45 text) && is_number (last_part 45 text)) && nat_le (first_place text) (last_place text)

-- Places on the left and on the right: `3-5:0-2`, or `3-5` if these are the same.
abbrev pub is_place : List ℕ → Bool
is_place text = is_span (first_part 58 text) && is_span (last_part 58 text)

-- each place of the second one is a place of the first one
abbrev pub has_span : List ℕ → List ℕ → Bool
has_span outer inner = (is_span outer && is_span inner) && (nat_le (first_place outer) (first_place inner) && nat_le (last_place inner) (last_place outer))

-- the same on both sides
abbrev pub has_place : List ℕ → List ℕ → Bool
has_place outer inner = has_span (first_part 58 outer) (first_part 58 inner) && has_span (last_part 58 outer) (last_part 58 inner)

-- the text between the brackets of a step, or the whole of a step without brackets
abbrev pub inside : List ℕ → List ℕ
inside [] = []
inside (c ∷ text) = cond ((c == 91) && bytes_eq (drop (length text - 1) text) (codes "]")) (take (length text - 1) text) (c ∷ text)
