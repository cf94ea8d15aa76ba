-- The lines of a list of sums.
use Rattle.std.specs.Prelude.{◌==◌, ◌||◌, ◌&&◌, not, nat_lt, ◌++◌, ℕ, Bool, cond, List, [], ◌∷◌, Option, Some, None, is_some}
use Rattle.std.specs.List.{flat_map, list_any}
use Rattle.hex.specs.Hex.{encode_lower}

-- what stands for a byte of a name that does not stand for itself: a backslash, a line feed and a carriage return
abbrev pub escape_of : ℕ → Option (List ℕ)
escape_of b = cond (b == 92) (Some (92 ∷ 92 ∷ [])) (cond (b == 10) (Some (92 ∷ 110 ∷ [])) (cond (b == 13) (Some (92 ∷ 114 ∷ [])) None))

-- a byte of a name as it is written
abbrev pub byte_text : ℕ → List ℕ
byte_text b = cond (b == 92) (92 ∷ 92 ∷ []) (cond (b == 10) (92 ∷ 110 ∷ []) (cond (b == 13) (92 ∷ 114 ∷ []) (b ∷ [])))

-- a name as it is written, on one line
abbrev pub name_text : List ℕ → List ℕ
name_text name = flat_map byte_text name

-- A byte that stands for itself, and `?` for a control character, which a terminal would not print. In a name that is no text each byte that is not ASCII is one.
abbrev pub printed_byte : Bool → ℕ → ℕ
printed_byte is_text b = cond (nat_lt b 32 || ((b == 127) || (nat_lt 127 b && not is_text))) 63 b

-- a byte of a name, as it is written where a file has no sum
abbrev pub told_byte : Bool → ℕ → List ℕ
told_byte is_text b = cond (b == 92) (92 ∷ 92 ∷ []) (cond (b == 10) (92 ∷ 110 ∷ []) (cond (b == 13) (92 ∷ 114 ∷ []) (printed_byte is_text b ∷ [])))

abbrev pub told_name : Bool → List ℕ → List ℕ
told_name is_text name = flat_map (told_byte is_text) name

-- whether a name is not written as it is
abbrev pub is_special : List ℕ → Bool
is_special name = list_any (λ b. is_some (escape_of b)) name

-- the line of a digest and a name: a backslash where the name is not written as it is, the digest in hex, two spaces, the name
abbrev pub sum_line : List ℕ → List ℕ → List ℕ
sum_line digest name = cond (is_special name) (92 ∷ []) [] ++ (encode_lower digest ++ ((32 ∷ 32 ∷ []) ++ (name_text name ++ (10 ∷ []))))
