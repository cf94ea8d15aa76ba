use Rattle.std.proofs.Common.{◌≡◌, ◌++◌, drop}
use Rattle.std.specs.List.{flat_map}
use Rattle.std.specs.String.{string_bytes}
use Rattle.review_formats.specs.Markdown.{row_text}
use Rattle.review_formats.proofs.markdown.put_rows.Given as goal

abbrev pub invariant-rows : goal.invariant-rows
invariant-rows l = string_bytes l.out ++ flat_map (row_text l.sides) (drop l.finding-index l.list) ≡ string_bytes l.fn.out ++ flat_map (row_text l.sides) l.list
