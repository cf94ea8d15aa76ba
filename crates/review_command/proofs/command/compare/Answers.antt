use Rattle.review_command.proofs.RejectionLaws.{diff_ends}
use Rattle.review_command.proofs.command.compare.Goals as goal

pub returns : goal.returns
returns g c = record {
  old = c.new-out.result;
  new = c.diff-answer.new.out;
  writer = c.new-out.ensures.inner;
  no_write = c.new-out.ensures.faults;
  ends = diff_ends (g.S.Shelf.holds c.args.shelf.now) g.R.Read.remaining g.W.Write.contents g.E.Write.contents c.args.asked.now c.args.ignored.now c.args.input c.new-out.result c.diff-answer.new.out c.args.err c.diff_status.new.err c.diff-answer.result c.diff_status.result c.diff-answer.ensures.tells c.diff-answer.ensures.refuses c.diff_status.ensures.ok c.diff_status.ensures.err c.diff_status.ensures.told;
}
