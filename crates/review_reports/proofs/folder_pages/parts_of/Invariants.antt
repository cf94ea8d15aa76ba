use Rattle.std.proofs.Common.{drop}
use Rattle.review_reports.proofs.PartLaws.{GoesOn}
use Rattle.review_reports.proofs.folder_pages.parts_of.Given as goal

abbrev pub invariant-entries : goal.invariant-entries
invariant-entries g l = GoesOn (g.S.Shelf.holds l.shelf) g.E.Write.contents l.asked l.ignored l.page l.entries l.initial.err (drop l.entry-index l.entries) l.parts.items l.err l.status
