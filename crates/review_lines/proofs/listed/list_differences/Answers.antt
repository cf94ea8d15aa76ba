use Rattle.std.proofs.Common.{◌∙◌}
use Rattle.review_lines.specs.Searched.{search_room}
use Rattle.review_lines.proofs.CompareLaws.{keeps_none, some_room}
use Rattle.review_lines.proofs.ListLaws.{if_ok}
use Rattle.review_lines.proofs.SameLaws.{alike_by_list}
use Rattle.review_lines.proofs.listed.list_differences.Goals as goal

pub returns-clause-lists : goal.returns-clause-lists
returns-clause-lists c =
    if_ok c.lines_listed.result
    (λ x h. record {
      found = c.in_ok-found.found;
      searches = c.in_ok-found.ensures.ok;
      kept = c.in_ok-kept.kept;
      keeps = c.in_ok-kept.ensures.ok;
      lists = h;
    })
    c.lines_listed.ensures.ok

pub returns-clause-same : goal.returns-clause-same
returns-clause-same c =
    let g = c.args.forests.now in
    let s = c.in_ok-found.ensures.ok in
    let ps = c.args.ignored.now in
    let lines = c.args.asked.now.lines in
    if_ok c.lines_listed.result
    (λ x h e.
    alike_by_list g (search_room g ps lines) c.in_ok-found.found x.same c.laws.ensures (some_room g ps lines) s.finds
    (h.is_none ∙ keeps_none g ps c.in_ok-found.found c.in_ok-kept.kept e c.in_ok-kept.ensures.ok))
    c.lines_listed.ensures.ok
