use Rattle.std.proofs.Common.{◌≡◌, ◌++◌, drop}
use Rattle.std.specs.List.{flat_map, enumerate_from}
use Rattle.std.specs.String.{string_bytes}
use Rattle.review_merge.specs.Parts.{values_in}
use Rattle.review_merge.specs.Lines.{value_column, values_text}
use Rattle.review_merge.proofs.lines.put_values.Given as goal

abbrev pub invariant-texts : goal.invariant-texts
invariant-texts l = string_bytes l.out ++ flat_map value_column (enumerate_from l.number (values_in (drop l.number l.texts))) ≡ string_bytes l.fn.out ++ values_text (values_in l.texts)
