use Rattle.std.proofs.Common.{◌∙◌}
use Rattle.review_lines.proofs.CompareLaws.{keeps_none, some_room}
use Rattle.review_lines.proofs.SameLaws.{alike_by_list}
use Rattle.review_lines.specs.Searched.{search_room}
use Rattle.review_lines.proofs.diff.compare.Goals as goal

pub returns-clause-text : goal.returns-clause-text
returns-clause-text c = record {
  found = c.in_ok-found.found;
  searches = c.in_ok-found.ensures.ok;
  kept = c.in_ok-kept.kept;
  keeps = c.in_ok-kept.ensures.ok;
  is_none = c.lists_none-same.ensures;
  tells = c.in_ok-text.ensures.lines;
  counts = c.in_ok-text.ensures.counts;
}

pub returns-clause-same : goal.returns-clause-same
returns-clause-same c e =
    let g = c.args.forests.now in
    let s = c.in_ok-found.ensures.ok in
    let ps = c.args.ignored.now in
    let lines = c.args.asked.now.lines in
    alike_by_list g (search_room g ps lines) c.in_ok-found.found c.lists_none-same.result c.laws.ensures (some_room g ps lines) s.finds
    (c.lists_none-same.ensures ∙ keeps_none g ps c.in_ok-found.found c.in_ok-kept.kept e c.in_ok-kept.ensures.ok)
