-- The differences and moves of two trees of ranked forests, listed together.
use Rattle.std.specs.Prelude.{◌≡◌, ◌⊎◌, ℕ, ◌+◌, ◌<◌, ◌≤◌, Bool, true, false, List, ◌∷◌, length, Option, Some}
use Rattle.std.specs.List.{slice_get}
use Rattle.yaml_definitions.specs.model.Tree.{Tree}
use Rattle.yaml_definitions.specs.model.Same.{Same}
use Rattle.yaml_store_rank.specs.Forests.{Forests, tree, entries_at}
use Rattle.yaml_path.specs.Path.{part}
use Rattle.yaml_path.specs.Path as plain
use Rattle.yaml_path.specs.Ways.{Way, Pairing, PairsAll, Differs, at_places, at_key}
use Rattle.yaml_path.specs.Ways as ways
use Rattle.yaml_path.specs.declared.places.Places.{Places}
use Rattle.yaml_diff.specs.Lines.{Line, IsTold, Listed, Apart, Ordered, Begins, way_of}
use Rattle.yaml_diff.specs.Moves.{MoveLine, ListsMoves, ListsSomeMoves}

-- Under a one-to-one pairing, of which some pairs have moved, at most so many differences in their order and moves, and all of them if they are told to be whole.
pub record Lists (g : Forests) (P M : Pairing) (t u : Option Tree) (room : ℕ) (lines : List Line) (moves : List MoveLine) (is_whole : Bool) : Type 0 where
  pub pairs : PairsAll P t u
  pub each : (k : ℕ) (d : Line) → slice_get lines k ≡ Some d → IsTold g P t u d
  pub few : length lines + length moves ≤ room
  pub whole : is_whole ≡ true → (q : Way) → Differs P q t u → Listed g q lines
  pub cut : is_whole ≡ false → length lines + length moves ≡ room
  pub apart : Apart g lines
  pub ordered : Ordered g P t u lines
  pub moved : ListsMoves g P M t u moves is_whole

-- the same, as far as such first steps go
pub record ListsSome (g : Forests) (P M : Pairing) (t u : Option Tree) (room : ℕ) (covers : ways.Step → Type 0) (lines : List Line) (moves : List MoveLine) (is_whole : Bool) : Type 0 where
  pub pairs : PairsAll P t u
  pub each : (k : ℕ) (d : Line) → slice_get lines k ≡ Some d → IsTold g P t u d
  pub few : length lines + length moves ≤ room
  pub whole : is_whole ≡ true → (s : ways.Step) (q : Way) → covers s → Differs P (s ∷ q) t u → Listed g (s ∷ q) lines
  pub cut : is_whole ≡ false → length lines + length moves ≡ room
  pub apart : Apart g lines
  pub ordered : Ordered g P t u lines
  pub covered : (k : ℕ) (d : Line) → slice_get lines k ≡ Some d → Begins covers (way_of g d.0)
  pub moved : ListsSomeMoves g P M t u covers moves is_whole

-- the value of a left key, or its want on the right
abbrev pub LeftCovers : Forests → ℕ → ways.Step → Type 0
LeftCovers g left (at_places p) = ⊥
LeftCovers g left (at_key x) = (v : Tree) × (part (tree g left) (plain.at_key x) ≡ Some v)

-- the differences of two trees but for parts that only the right one has
abbrev pub LeftEntries : Forests → ℕ → ℕ → ℕ → List Line → List MoveLine → Bool → Type 0
LeftEntries g left right room lines moves is_whole = (P M : Pairing) × ListsSome g P M (Some (tree g left)) (Some (tree g right)) room (LeftCovers g left) lines moves is_whole

-- the first so many steps of a pairing
abbrev pub PlacesBelow : ℕ → List Places → ways.Step → Type 0
PlacesBelow n ps (at_places p) = (k : ℕ) × (k < n) × (slice_get ps k ≡ Some p)
PlacesBelow n ps (at_key x) = ⊥

-- the keys of so many entries of a mapping
abbrev pub EntriesBelow : Forests → ℕ → ℕ → ways.Step → Type 0
EntriesBelow g mapping n (at_places p) = ⊥
EntriesBelow g mapping n (at_key x) = (k : ℕ) × (p : ℕ × ℕ) × (k < n) × (slice_get (entries_at g mapping) k ≡ Some p) × Same (tree g p.0) x

-- the parts that the left tree has, and those of the keys of so many entries of the right one
abbrev pub RightCovers : Forests → ℕ → ℕ → ℕ → ways.Step → Type 0
RightCovers g left right n s = LeftCovers g left s ⊎ EntriesBelow g right n s
