-- The names of a list.
use Rattle.std.specs.Prelude.{◌≡◌, ◌==◌, ◌++◌, ℕ, false, cond, List, [], ◌∷◌, Option, Some, None}
use Rattle.std.specs.List.{list_any}

-- what ends a name: a null byte if the list has one, else a line feed
abbrev pub end_in : List ℕ → ℕ
end_in list = cond (list_any (λ b. b == 0) list) 0 10

-- a name that is not empty
abbrev pub named : List ℕ → List (List ℕ)
named [] = []
named name = name ∷ []

-- one byte more before the names of a list, of which the first is perhaps empty
abbrev pub with_byte : ℕ → List (List ℕ) → List (List ℕ)
with_byte b [] = (b ∷ []) ∷ []
with_byte b (piece ∷ pieces) = (b ∷ piece) ∷ pieces

-- the pieces of a list between the bytes that end them
abbrev pub pieces : ℕ → List ℕ → List (List ℕ)
pieces end [] = [] ∷ []
pieces end (b ∷ bs) = cond (b == end) ([] ∷ pieces end bs) (with_byte b (pieces end bs))

-- those that are not empty
abbrev pub all_named : List (List ℕ) → List (List ℕ)
all_named [] = []
all_named (piece ∷ pieces) = named piece ++ all_named pieces

-- the names of a list: what stands between the bytes that end them, empty ones left out
abbrev pub names_in : List ℕ → List (List ℕ)
names_in list = all_named (pieces (end_in list) list)

-- no byte of a piece ends it
abbrev pub IsOne : ℕ → List ℕ → Type 0
IsOne end piece = list_any (λ b. b == end) piece ≡ false

-- a list up to its first end, and what is behind that end
abbrev pub IsCut : ℕ → List ℕ → List ℕ → Option (List ℕ) → Type 0
IsCut end list piece (Some more) = IsOne end piece × (list ≡ piece ++ (end ∷ more))
IsCut end list piece None = IsOne end piece × (list ≡ piece)
