-- The moves of two trees of ranked forests as they are listed.
use Rattle.std.specs.Prelude.{◌≡◌, ℕ, Bool, true, List, [], ◌∷◌, ◌++◌, Option, Some, None}
use Rattle.std.specs.List.{slice_get}
use Rattle.yaml_definitions.specs.model.Tree.{Tree}
use Rattle.yaml_store_rank.specs.Forests.{Forests}
use Rattle.yaml_path.specs.Ways.{Way, Pairing, Reaches, Allows, EndsAlong, SettlesAll, InOrderAll, AlikeWay, at_places}
use Rattle.yaml_path.specs.Ways as ways
use Rattle.yaml_path.specs.declared.places.Places.{Places}
use Rattle.yaml_diff.specs.declared.difference.Step as code
use Rattle.yaml_diff.specs.declared.difference.Move.{Move}
use Rattle.yaml_diff.specs.Lines.{Line, way_of, Begins}
use Rattle.yaml_diff.specs.declared.difference.Step.TheVariants.{Item}

-- The steps to a sequence, the last one first, and a pair of its items.
abbrev pub MoveLine : Type 0
MoveLine = List code.Step × Places

abbrev pub move_line_of : Move → MoveLine
move_line_of m = (m.path.items, m.places)

-- a pair of items of the trees themselves
abbrev pub here : Places → MoveLine
here p = ([], p)

-- the same as the line of a difference with no nodes, whose last step leads to the items
abbrev pub moved_line : MoveLine → Line
moved_line m = (Item m.1 ∷ m.0, (None, None))

-- the same move of a tree above, from which this step leads here
abbrev pub moved_under : code.Step → MoveLine → MoveLine
moved_under s m = (m.0 ++ (s ∷ []), m.1)

-- The way leads to two sequences between which this pair has moved; equal ends of the sequences above and of these are paired.
pub record IsMoved (g : Forests) (P M : Pairing) (t u : Option Tree) (m : MoveLine) : Type 0 where
  pub reaches : Reaches P (way_of g m.0) t u
  pub moved : Allows (M (way_of g m.0)) (at_places m.1)
  pub ends : EndsAlong P (way_of g m.0 ++ (at_places m.1 ∷ [])) t u

-- a line has this move
abbrev pub MoveListed : Forests → Way → Places → List MoveLine → Type 0
MoveListed g w p moves = (k : ℕ) × (m : MoveLine) × (slice_get moves k ≡ Some m) × AlikeWay (way_of g m.0) w × (m.1 ≡ p)

-- no move stands in two lines
abbrev pub MovesApart : Forests → List MoveLine → Type 0
MovesApart g moves = (j k : ℕ) (m n : MoveLine) → slice_get moves j ≡ Some m → slice_get moves k ≡ Some n → AlikeWay (way_of g m.0) (way_of g n.0) → m.1 ≡ n.1 → j ≡ k

-- Of a pairing, some pairs have moved. These are such pairs, each once, and all of them if they are told to be whole.
pub record ListsMoves (g : Forests) (P M : Pairing) (t u : Option Tree) (moves : List MoveLine) (is_whole : Bool) : Type 0 where
  pub settles : SettlesAll P M
  pub in_order : InOrderAll P M
  pub each : (k : ℕ) (m : MoveLine) → slice_get moves k ≡ Some m → IsMoved g P M t u m
  pub whole : is_whole ≡ true → (w : Way) (p : Places) → Reaches P w t u → Allows (M w) (at_places p) → MoveListed g w p moves
  pub apart : MovesApart g moves

-- the same, as far as such first steps go
pub record ListsSomeMoves (g : Forests) (P M : Pairing) (t u : Option Tree) (covers : ways.Step → Type 0) (moves : List MoveLine) (is_whole : Bool) : Type 0 where
  pub settles : SettlesAll P M
  pub in_order : InOrderAll P M
  pub each : (k : ℕ) (m : MoveLine) → slice_get moves k ≡ Some m → IsMoved g P M t u m
  pub whole : is_whole ≡ true → (s : ways.Step) (w : Way) (p : Places) → covers s → Reaches P (s ∷ w) t u → Allows (M (s ∷ w)) (at_places p) → MoveListed g (s ∷ w) p moves
  pub apart : MovesApart g moves
  pub covered : (k : ℕ) (m : MoveLine) → slice_get moves k ≡ Some m → Begins covers (way_of g m.0)
