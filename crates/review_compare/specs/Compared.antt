-- The differences of two streams, as lines and as a list.
use Rattle.std.specs.Prelude.{ℕ, Bool, List, [], ◌∷◌}
use Rattle.yaml_store_rank.specs.Forests.{Forests}
use Rattle.yaml_canon.specs.Written.{ShowsStreams}
use Rattle.review_patterns.specs.declared.pattern.Pattern.{Pattern}
use Rattle.review_text.specs.declared.options.Diff.{Diff}
use Rattle.review_lines.specs.Compared.{TellsStreams}
use Rattle.review_lines.specs.Listed.{ListsStreams}
use Rattle.review_lines.specs.declared.listed.Listed.{Listed}

-- The text is the lines of the differences of two streams of these bytes, of as many as are asked for, but for those that are at or below a path that one of the patterns matches; and whether there are none.
pub record DiffLines (left right : List ℕ) (asked : Diff) (ignored : List Pattern) (none : Bool) (text : List ℕ) : Type 0 where
  pub forests : Forests
  pub show : ShowsStreams (left ∷ right ∷ []) forests
  pub tells : TellsStreams forests asked ignored none text

-- The list is the differences of two streams of these bytes, as `DiffLines` has them as text.
pub record DiffLists (left right : List ℕ) (asked : Diff) (ignored : List Pattern) (listed : Listed) : Type 0 where
  pub forests : Forests
  pub show : ShowsStreams (left ∷ right ∷ []) forests
  pub lists : ListsStreams forests asked ignored listed
