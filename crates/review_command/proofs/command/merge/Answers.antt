use Rattle.review_command.proofs.MergeLaws.{merge_ends}
use Rattle.review_command.proofs.command.merge.Goals as goal

pub returns : goal.returns
returns g c = record {
  names = c.merge_names-names.result;
  asks = c.merge_names-names.ensures;
  print = c.merge_print.result;
  prints = c.merge_print.ensures;
  end = c.merge3-answer.new.input;
  old = c.new-out.result;
  new = c.merge3-answer.new.out;
  writer = c.new-out.ensures.inner;
  no_write = c.new-out.ensures.faults;
  ends = merge_ends (g.S.Shelf.holds c.args.shelf.now) g.R.Read.remaining g.W.Write.contents g.E.Write.contents c.merge_names-names.result c.merge_print.result c.args.input c.merge3-answer.new.input c.new-out.result c.merge3-answer.new.out c.args.err c.merge_status.new.err c.merge3-answer.result c.merge_status.result c.merge3-answer.ensures.tells c.merge3-answer.ensures.none c.merge3-answer.ensures.refuses c.merge_status.ensures.ok c.merge_status.ensures.err c.merge_status.ensures.told;
}
