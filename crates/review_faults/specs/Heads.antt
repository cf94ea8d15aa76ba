-- What comes before a message of a file.
use Rattle.std.specs.Prelude.{ℕ, List, [], ◌++◌, Option, Some, None, codes}
use Rattle.std.specs.Fmt.{decimal}
use Rattle.yaml_path.specs.declared.place.Place.{Place}
use Rattle.review_text.specs.Terminal.{terminal}

-- the line and the column, if there are
abbrev pub place_part : Option Place → List ℕ
place_part None = []
place_part (Some p) = codes ":" ++ (decimal p.line ++ (codes ":" ++ decimal p.column))

-- the file, and the line and the column if there are
abbrev pub head : List ℕ → Option Place → List ℕ
head name place = terminal name ++ (place_part place ++ codes ": ")
