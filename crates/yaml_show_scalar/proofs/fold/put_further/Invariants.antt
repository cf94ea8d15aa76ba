use Rattle.std.proofs.Common.{◌≡◌, ◌++◌, length}
use Rattle.std.specs.List.{slice_split}
use Rattle.yaml_show_scalar.specs.Folds.{is_space, width, column_after, further_words}
use Rattle.yaml_show_scalar.specs.Stops.{limit_of}
use Rattle.yaml_show_scalar.specs.Texts.{written}
use Rattle.yaml_show_scalar.proofs.FoldLaws.{IsFolding}
use Rattle.yaml_show_scalar.proofs.fold.put_further.Given as goal

abbrev pub invariant-words : goal.invariant-words
invariant-words l =
    (limit_of l.out ≡ limit_of l.initial.out)
    × IsFolding l.level l.column l.before l.rest (written l.initial.out ++ further_words l.level (column_after 0 (width l.first)) l.first (slice_split is_space l.words)) (written l.out)

abbrev pub decreases-words : goal.decreases-words
decreases-words l = length l.rest
