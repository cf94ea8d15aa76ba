use Rattle.review_command.proofs.FolderLaws.{folders_shown}
use Rattle.review_command.proofs.command.compare_folders.Goals as goal

pub returns : goal.returns
returns g c = folders_shown g.W.Write.contents g.E.Write.contents _ _ _ _ _ _ _ _ _ _ c.in-Some.is c.new-out.ensures.inner c.new-out.ensures.faults c.folder_page.ensures
