-- The differences and moves that are left where some are left out because of their paths.
use Rattle.std.specs.Prelude.{◌≡◌, ℕ, Bool, not, ◌||◌, map, List, [], ◌∷◌}
use Rattle.std.specs.List.{filter}
use Rattle.yaml_store_rank.specs.Forests.{Forests}
use Rattle.yaml_path.specs.Ways.{Way}
use Rattle.yaml_diff.specs.Lines.{way_of}
use Rattle.yaml_diff.specs.declared.difference.Difference.{Difference}
use Rattle.yaml_diff.specs.declared.difference.Move.{Move}
use Rattle.yaml_diff.specs.declared.difference.Step as code
use Rattle.yaml_diff.specs.declared.difference.Step.TheVariants.{Item}
use Rattle.yaml_diff.specs.declared.difference.Found.{Found}
use Rattle.review_text.specs.Hidden.{visible}
use Rattle.review_text.specs.PathText.{first_text, step_text}
use Rattle.review_patterns.specs.Patterns.{is_covered}
use Rattle.review_patterns.specs.declared.pattern.Pattern.{Pattern}

-- the steps of a path as they are printed, that to the document first
abbrev pub texts_of : Way → List (List ℕ)
texts_of [] = []
texts_of (s ∷ w) = visible (first_text s) ∷ map (λ t. visible (step_text t)) w

-- the path, whose last step is the first here, is at or below one that a pattern matches
abbrev pub is_ignored : Forests → List Pattern → List code.Step → Bool
is_ignored g patterns path = is_covered patterns (texts_of (way_of g path))

-- the path to the items of a move
abbrev pub item_path : Move → List code.Step
item_path m = Item m.places ∷ m.path.items

-- a pattern matches each document
abbrev pub covers_all : List Pattern → Bool
covers_all patterns = is_covered patterns ([] ∷ [])

-- the differences and the moves that are left, in their order
abbrev pub outside : Forests → List Pattern → List Difference → List Difference
outside g patterns ds = filter (λ d. not (is_ignored g patterns d.path.items)) ds

abbrev pub moves_outside : Forests → List Pattern → List Move → List Move
moves_outside g patterns ms = filter (λ m. not (is_ignored g patterns (item_path m))) ms

-- Of the differences and moves that were found, those that are not at or below a path that a pattern matches. They are all if all were found, and none is left if a pattern matches each document.
pub record Keeps (g : Forests) (patterns : List Pattern) (found kept : Found) : Type 0 where
  pub list : kept.list.items ≡ outside g patterns found.list.items
  pub moves : kept.moves.items ≡ moves_outside g patterns found.moves.items
  pub whole : kept.whole ≡ (covers_all patterns || found.whole)
