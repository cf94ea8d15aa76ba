-- Which differences and moves of two streams are looked for.
use Rattle.std.specs.Prelude.{◌≡◌, ◌==◌, ◌||◌, ℕ, Bool, true, cond, nat_lt, max, map, length, List, [], Option, Some}
use Rattle.std.specs.List.{list_any}
use Rattle.yaml_definitions.specs.model.Tree.{Tree, sequence, height}
use Rattle.yaml_tree.specs.TreeLists.{trees}
use Rattle.yaml_store_rank.specs.Forests.{Forests, tree, documents_of}
use Rattle.yaml_diff.specs.Found.{Finds, moves_of}
use Rattle.yaml_diff.specs.declared.difference.Found.{Found}
use Rattle.review_text.specs.declared.options.Diff.{Diff}
use Rattle.review_patterns.specs.declared.pattern.Pattern.{Pattern}

-- whether a node's tree is more than a hundred nodes high
abbrev pub is_high : Forests → ℕ → Bool
is_high g i = nat_lt 100 (height (tree g i))

-- whether a document of a stream is
abbrev pub has_high : Forests → ℕ → Bool
has_high g stream = list_any (is_high g) (documents_of g stream)

-- so many, but ten thousand where a document is high, since each path may then have many steps
abbrev pub least_room : Forests → ℕ → ℕ
least_room g many = cond (has_high g 0 || has_high g 1) 10000 many

-- as many as lines are asked for, but at least a hundred thousand, or a million where some are left out, or ten thousand of high documents
abbrev pub search_room : Forests → List Pattern → ℕ → ℕ
search_room g ps lines = max (least_room g (cond (length ps == 0) 100000 1000000)) lines

-- the documents of a stream as the items of one sequence
abbrev pub stream_tree : Forests → List ℕ → ℕ → Option Tree
stream_tree g tag stream = Some (sequence tag (trees (map (tree g) (documents_of g stream))))

-- the differences and moves of the first two streams
abbrev pub FindsStreams : Forests → ℕ → Found → Type 0
FindsStreams g room f = (tag : List ℕ) → Finds g (stream_tree g tag 0) (stream_tree g tag 1) room f

-- The differences and moves of two streams are looked for, so many of both. Where items are paired by their positions, none moved.
pub record Searches (g : Forests) (ignored : List Pattern) (asked : Diff) (f : Found) : Type 0 where
  pub finds : FindsStreams g (search_room g ignored asked.lines) f
  pub calm : asked.by_position ≡ true → moves_of f ≡ []
