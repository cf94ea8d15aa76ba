-- What lists of differences and moves say.
use Rattle.std.specs.Prelude.{◌≡◌, ◌⊎◌, ℕ, Bool, true, List, [], ◌∷◌, ◌++◌, length, Option, Some, None}
use Rattle.std.specs.List.{slice_get}
use Rattle.yaml_definitions.specs.model.Tree.{Tree}
use Rattle.yaml_store_rank.specs.Forests.{Forests}
use Rattle.yaml_path.specs.Ways.{Way, Pairing, Each, Settles, Reaches, Allows, at_places, left_place, right_place}
use Rattle.yaml_path.specs.declared.places.Places.{Places}
use Rattle.yaml_path.specs.declared.places.Places.TheVariants.{Both}
use Rattle.yaml_diff.specs.Lines.{Line, way_of, Listed}
use Rattle.yaml_diff.specs.Moves.{MoveLine, MoveListed}
use Rattle.yaml_diff.specs.Listing.{Lists}
use Rattle.yaml_diff.specs.Patch.{Told, Tells, patch}

-- The lines of one list, whose paired items are alike (below which nothing is told, or what is told was done), make the right list of the left one, and the left one of the right.
abbrev pub ListIsPatch : Type 0
ListIsPatch = (xs ys : List Tree) (ps moved : List Places) (ls : List (Told Tree)) → Each left_place ps (length xs) → Each right_place ps (length ys) → Settles ps moved
    → ((i j : ℕ) → Allows ps (at_places (Both i j)) → slice_get xs i ≡ slice_get ys j) → Tells xs ys ps moved ls
    → (patch left_place right_place ls (length ys) xs ≡ ys) × (patch right_place left_place ls (length xs) ys ≡ xs)

-- At each way to two lists, a whole list of lines tells each item that stands alone and each pair that has moved: the lines of which `ListIsPatch` speaks.
abbrev pub LevelIsTold : Type 0
LevelIsTold = (g : Forests) (P M : Pairing) (t u : Option Tree) (room : ℕ) (lines : List Line) (moves : List MoveLine) → Lists g P M t u room lines moves true → (w : Way) → Reaches P w t u → (p : Places) → Allows (P w) (at_places p) →
    ((left_place p ≡ None) ⊎ (right_place p ≡ None) → Listed g (w ++ (at_places p ∷ [])) lines) × (Allows (M w) (at_places p) → MoveListed g w p moves)

-- and nothing else of such a list: a line whose last step is to items is told of a step of the pairing there, and a move of a pair there
abbrev pub ToldIsLevel : Type 0
ToldIsLevel = (g : Forests) (P M : Pairing) (t u : Option Tree) (room : ℕ) (lines : List Line) (moves : List MoveLine) (is_whole : Bool) → Lists g P M t u room lines moves is_whole → (w : Way) (p : Places) →
    ((k : ℕ) (d : Line) → slice_get lines k ≡ Some d → way_of g d.0 ≡ w ++ (at_places p ∷ []) → Allows (P w) (at_places p)) × ((k : ℕ) (m : MoveLine) → slice_get moves k ≡ Some m → way_of g m.0 ≡ w → m.1 ≡ p → Allows (M w) (at_places p) × Allows (P w) (at_places p))
