use Rattle.review_command.proofs.command.report_as.Goals as goal

pub returns : goal.returns
returns g c = record {
  end = c.pages.new.input;
  old = c.new-out.result;
  new = c.pages.new.out;
  writer = c.new-out.ensures.inner;
  no_write = c.new-out.ensures.faults;
  tells = c.pages.ensures;
}
