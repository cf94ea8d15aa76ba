use Rattle.yaml_command.proofs.command.command_over.Goals as goal

pub returns-clause-tells : goal.returns-clause-tells
returns-clause-tells g c = record {
  start = c.new-input.result;
  end = c.answer.new.input;
  old = c.new-out.result;
  new = c.answer.new.out;
  reader = c.new-input.ensures.inner;
  no_read = c.new-input.ensures.faults;
  writer = c.new-out.ensures.inner;
  no_write = c.new-out.ensures.faults;
  before = c.new-err.result;
  after = c.answer.new.err;
  teller = c.new-err.ensures.inner;
  no_line = c.new-err.ensures.faults;
  tells = c.answer.ensures.tells;
}
