use Rattle.std.proofs.Common.{◌≡◌, ◌+◌, ◌++◌, drop}
use Rattle.std.specs.List.{flat_map}
use Rattle.std.specs.String.{string_bytes}
use Rattle.review_html.specs.Html.{numbered, part_links}
use Rattle.review_html.proofs.html.put_links.Given as goal

abbrev pub invariant-parts : goal.invariant-parts
invariant-parts l = string_bytes l.out ++ flat_map part_links (numbered (l.at + 1) l.before (drop l.at l.parts)) ≡ string_bytes l.initial.out ++ flat_map part_links (numbered 1 0 l.parts)
