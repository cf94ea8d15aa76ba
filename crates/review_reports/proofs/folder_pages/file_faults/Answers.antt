use Rattle.review_reports.proofs.StatusLaws.{faults_at}
use Rattle.review_reports.proofs.folder_pages.file_faults.Goals as goal

pub returns-in-Ok-clause-ok : goal.returns-in-Ok-clause-ok
returns-in-Ok-clause-ok c = faults_at c.bytes_faults.result c.args.file c.in-Ok.bytes c.in-Ok.is (rw c.deref.ensures.value at c.bytes_faults.ensures.ok)
