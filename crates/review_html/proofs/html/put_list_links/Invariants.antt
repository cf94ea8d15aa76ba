use Rattle.std.proofs.Common.{◌≡◌, ◌+◌, ◌++◌, drop}
use Rattle.std.specs.List.{flat_map, enumerate_from}
use Rattle.std.specs.String.{string_bytes}
use Rattle.review_html.specs.Html.{link_item}
use Rattle.review_html.proofs.html.put_list_links.Given as goal

abbrev pub invariant-links : goal.invariant-links
invariant-links l = string_bytes l.out ++ flat_map link_item (enumerate_from (l.before + l.at) (drop l.at l.list)) ≡ string_bytes l.fn.out ++ flat_map link_item (enumerate_from l.before l.list)
