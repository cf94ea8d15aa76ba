use Rattle.review_command.proofs.RejectionLaws.{page_ends}
use Rattle.review_command.proofs.command.compare_as.Goals as goal

pub returns : goal.returns
returns g c = record {
  old = c.new-out.result;
  new = c.diff_page-answer.new.out;
  writer = c.new-out.ensures.inner;
  no_write = c.new-out.ensures.faults;
  ends = page_ends (g.S.Shelf.holds c.args.shelf.now) g.R.Read.remaining g.W.Write.contents g.E.Write.contents c.args.told.0.now c.args.told.1 c.args.ignored.now c.args.input c.new-out.result c.diff_page-answer.new.out c.args.err c.diff_status.new.err c.diff_page-answer.result c.diff_status.result c.diff_page-answer.ensures.shows c.diff_page-answer.ensures.refuses c.diff_status.ensures.ok c.diff_status.ensures.err c.diff_status.ensures.told;
}
