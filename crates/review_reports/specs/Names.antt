-- The names of the files that two folders have.
use Rattle.std.specs.Prelude.{◌≡◌, ℕ, Bool, true, false, cond, List, [], ◌∷◌, flat_map, map, String, string_bytes}
use Rattle.std.specs.declared.alloc.Global.{Global}
use Rattle.review_reports.specs.declared.entry.Entry.{Entry}
use Rattle.review_reports.specs.declared.entry.Has.{Has}
use Rattle.review_reports.specs.declared.entry.Has.TheVariants.{Left, Both, Right}

-- whether the left folder has a file, and whether the right one has it
abbrev pub is_left : Has → Bool
is_left Left = true
is_left Both = true
is_left Right = false

abbrev pub is_right : Has → Bool
is_right Left = false
is_right Both = true
is_right Right = true

-- the name of an entry, if that folder has it
abbrev pub left_of : Entry → List (List ℕ)
left_of entry = cond (is_left entry.has) (entry.name.now ∷ []) []

abbrev pub right_of : Entry → List (List ℕ)
right_of entry = cond (is_right entry.has) (entry.name.now ∷ []) []

abbrev pub names_in : List (String Global) → List (List ℕ)
names_in list = map string_bytes list

-- The entries have each folder's names, in the order in which they are given, and no others.
pub record HaveNames (left right : List (String Global)) (entries : List Entry) : Type 0 where
  pub lefts : flat_map left_of entries ≡ names_in left
  pub rights : flat_map right_of entries ≡ names_in right

-- of a left and a right name, one of them or both
abbrev pub IsNearer : List ℕ → List ℕ → Has → List ℕ → Type 0
IsNearer left right Left name = name ≡ left
IsNearer left right Both name = (name ≡ left) × (name ≡ right)
IsNearer left right Right name = name ≡ right

-- The first of these names is this one.
abbrev pub Begins : List (String Global) → List ℕ → Type 0
Begins list name = (rest : List (List ℕ)) × (names_in list ≡ name ∷ rest)

-- the first name of the left folder, of both, or of the right one
abbrev pub IsNext : List (String Global) → List (String Global) → Has → List ℕ → Type 0
IsNext left right Left name = Begins left name
IsNext left right Both name = Begins left name × Begins right name
IsNext left right Right name = Begins right name
