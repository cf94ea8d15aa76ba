use Rattle.std.proofs.Common.{◌≡◌, ◌++◌, drop}
use Rattle.std.specs.List.{flat_map}
use Rattle.std.specs.String.{string_bytes}
use Rattle.review_formats.specs.Github.{finding_line}
use Rattle.review_formats.proofs.github.put_part.Given as goal

abbrev pub invariant-findings : goal.invariant-findings
invariant-findings l = string_bytes l.out ++ flat_map finding_line (drop l.finding-index l.part.list.items) ≡ string_bytes l.fn.out ++ flat_map finding_line l.part.list.items
