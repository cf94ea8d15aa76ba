use Rattle.std.proofs.Common.{subst}
use Rattle.review_reports.specs.FolderPages.{IsList}
use Rattle.review_reports.proofs.folder_pages.faults_found.Goals as goal

pub returns-clause-ok : goal.returns-clause-ok
returns-clause-ok c = (c.in_ok-list.list.items, c.in_ok-more.more.items, c.in_ok-list.ensures.ok, c.in_ok-more.ensures.ok, subst (λ z. IsList z c.part_with.result) c.in_ok-append.ensures.items c.part_with.ensures)
