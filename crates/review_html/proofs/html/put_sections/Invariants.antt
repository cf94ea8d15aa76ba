use Rattle.std.proofs.Common.{◌≡◌, ◌+◌, ◌++◌, drop}
use Rattle.std.specs.List.{flat_map, enumerate_from}
use Rattle.std.specs.String.{string_bytes}
use Rattle.review_html.specs.Html.{section_text}
use Rattle.review_html.proofs.html.put_sections.Given as goal

abbrev pub invariant-sections : goal.invariant-sections
invariant-sections l = string_bytes l.out ++ flat_map (section_text l.number) (enumerate_from (l.before + l.at) (drop l.at l.list)) ≡ string_bytes l.fn.out ++ flat_map (section_text l.number) (enumerate_from l.before l.list)
