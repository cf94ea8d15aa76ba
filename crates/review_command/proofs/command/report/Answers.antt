use Rattle.review_command.proofs.command.report.Goals as goal

pub returns : goal.returns
returns g c = record {
  end = c.reports.new.input;
  old = c.new-out.result;
  new = c.reports.new.out;
  writer = c.new-out.ensures.inner;
  no_write = c.new-out.ensures.faults;
  tells = c.reports.ensures.tells;
}
