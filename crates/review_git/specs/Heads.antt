-- The lines before the differences of a file: its path, and the one that it had.
use Rattle.std.specs.Prelude.{◌≡◌, ℕ, List, [], ◌++◌, Option, Some, None, codes}
use Rattle.std.specs.Borrow.{Bor}
use Rattle.review_text.specs.Terminal.{terminal}
use Rattle.review_git.specs.declared.asked.Pair.{Pair}
use Rattle.review_git.specs.Sides.{IsChange}

-- the path that a file was renamed or copied to
abbrev pub renamed_text : Option (Bor (List ℕ) × Bor (List ℕ)) → List ℕ
renamed_text None = []
renamed_text (Some r) = codes " -> " ++ terminal r.0.now

abbrev pub name_line : Pair → List ℕ
name_line pair = codes "diff " ++ (terminal pair.path.now ++ (renamed_text pair.renamed ++ codes "\n"))

-- from which path a file was renamed or copied, if it was
abbrev pub IsRenamed : List ℕ → Option (Bor (List ℕ) × Bor (List ℕ)) → List ℕ → Type 0
IsRenamed path None line = line ≡ []
IsRenamed path (Some r) line = (words : List ℕ) × IsChange r.1.now words × (line ≡ words ++ (terminal path ++ codes "\n"))

abbrev pub IsRenamedLine : Pair → List ℕ → Type 0
IsRenamedLine pair line = IsRenamed pair.path.now pair.renamed line

-- the path that a file has on the right: another one if it was renamed or copied
abbrev pub path_now : List ℕ → Option (Bor (List ℕ) × Bor (List ℕ)) → List ℕ
path_now path None = path
path_now path (Some r) = r.0.now

abbrev pub right_path : Pair → List ℕ
right_path pair = path_now pair.path.now pair.renamed
