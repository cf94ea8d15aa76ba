use Rattle.std.proofs.Common.{Bor, List, ℕ, map, drop}
use Rattle.review_reports.proofs.PageLaws.{GoesOn}
use Rattle.review_reports.proofs.pages.files_list.Given as goal

abbrev pub invariant-files : goal.invariant-files
invariant-files g l =
    let names : List (List ℕ) = map {A = Bor (List ℕ)} {B = List ℕ} (λ s. s.now) l.files in
    GoesOn (g.S.Shelf.holds l.shelf) g.R.Read.remaining l.kind names l.fn.input (drop l.name-index names) l.input l.list.items l.status
