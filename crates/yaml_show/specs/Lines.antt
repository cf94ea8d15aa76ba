-- Lines of JSON.
use Rattle.std.specs.Prelude.{◌≡◌, ◌++◌, ◌==◌, ℕ, Bool, true, not, List, [], ◌∷◌, flat_map, map}
use Rattle.std.specs.List.{All, list_all}
use Rattle.yaml_definitions.specs.model.Tree.{Tree}
use Rattle.yaml_definitions.specs.model.Order.{arranged}
use Rattle.yaml_definitions.specs.model.Means.{Means}
use Rattle.yaml_json.specs.Json.{IsJson}
use Rattle.yaml_show.specs.JsonText.{json_text}
use Rattle.yaml_show.specs.JsonTrees.{has_json}
use Rattle.yaml_show.specs.Alike.{MeanAlike}

-- a line after a text, ended by a line feed
abbrev pub line_after : List ℕ → List ℕ → List ℕ
line_after before line = before ++ line ++ (10 ∷ [])

-- the lines, each after a text
abbrev pub joined : List ℕ → List (List ℕ) → List ℕ
joined before lines = flat_map (line_after before) lines

-- no line feed
abbrev pub is_inside : ℕ → Bool
is_inside byte = not (byte == 10)

-- It is JSON, on one line.
pub record IsJsonLine (line : List ℕ) : Type 0 where
  pub json : IsJson line
  pub inside : list_all is_inside line ≡ true

-- `--- `, which begins a document
abbrev pub document_start : List ℕ
document_start = 45 ∷ 45 ∷ 45 ∷ 32 ∷ []

-- JSON has each of these documents.
abbrev pub all_have_json : List Tree → Bool
all_have_json f = list_all has_json (map arranged f)

-- JSON has these documents, and the lines are theirs.
pub record AreTheirs (f : List Tree) (lines : List (List ℕ)) : Type 0 where
  pub written : lines ≡ map json_text (map arranged f)
  pub has : all_have_json f ≡ true

-- The text is lines of JSON, those of the documents that the bytes mean. These lines, each as a document, are a stream that means what the bytes mean: the first line is the first document, and so on.
pub record LinesOf (bytes text : List ℕ) : Type 0 where
  pub lines : List (List ℕ)
  pub text_is : text ≡ joined [] lines
  pub json : All IsJsonLine lines
  pub theirs : (f : List Tree) → Means bytes f → AreTheirs f lines
  pub alike : MeanAlike bytes (joined document_start lines)

-- Streams that mean the same have the same lines of JSON.
abbrev pub SameIsJsonAlike : Type 0
SameIsJsonAlike = (left right text other : List ℕ) → MeanAlike left right → LinesOf left text → LinesOf right other → text ≡ other
