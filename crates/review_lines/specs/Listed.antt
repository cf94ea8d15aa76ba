-- What is listed of two streams.
use Rattle.std.specs.Prelude.{◌≡◌, ◌==◌, ◌&&◌, ◌-◌, ℕ, false, length, List, true}
use Rattle.yaml_diff.specs.declared.difference.Found.{Found}
use Rattle.review_text.specs.declared.options.Diff.{Diff}
use Rattle.review_patterns.specs.declared.pattern.Pattern.{Pattern}
use Rattle.review_folds.specs.Ignored.{Keeps}
use Rattle.yaml_store_rank.specs.Forests.{Forests}
use Rattle.review_lines.specs.Searched.{Searches}
use Rattle.review_lines.specs.Compared.{left_out_of, TellsDifferences, TellsMoves}
use Rattle.review_lines.specs.declared.listed.Listed.{Listed}

-- A line for each difference, or for those of one change that aliases show, and then one for each pair of items that moved, all together as many as are asked for, and what is left out.
pub record ListsFound (g : Forests) (asked : Diff) (f : Found) (listed : Listed) : Type 0 where
  pub differences : TellsDifferences true g asked f.list.items listed.lines.items
  pub untold : ℕ
  pub moves : TellsMoves false g asked f (asked.lines - length listed.lines.items) listed.moves.items untold
  pub left_out : listed.left_out ≡ left_out_of f listed.lines.items untold
  pub is_none : listed.same ≡ ((f.whole && (length f.list.items == 0)) && (length f.moves.items == 0))

-- The list is the differences and moves of two streams, as many as are asked for, but for those that are at or below a path that one of the patterns matches; and whether there are none.
pub record ListsStreams (g : Forests) (asked : Diff) (ignored : List Pattern) (listed : Listed) : Type 0 where
  pub found : Found
  pub searches : Searches g ignored asked found
  pub kept : Found
  pub keeps : Keeps g ignored found kept
  pub lists : ListsFound g asked kept listed
