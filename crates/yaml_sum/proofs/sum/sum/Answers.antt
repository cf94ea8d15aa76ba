use Rattle.std.proofs.Common.{◌∙◌, inl, inr}
use Rattle.yaml_sum.specs.Stops.{halt_line}
use Rattle.yaml_sum.proofs.AskLaws.{told_either}
use Rattle.yaml_sum.proofs.sum.sum.Goals as goal

pub returns-in-Ok : goal.returns-in-Ok
returns-in-Ok g c = record {
  tells = record {
    end = c.run.new.input;
    old = c.new-out.result;
    new = c.run.new.out;
    before = c.new-err.result;
    after = c.run.new.err;
    writer = c.new-out.ensures.inner;
    no_write = c.new-out.ensures.faults;
    teller = c.new-err.ensures.inner;
    no_line = c.new-err.ensures.faults;
    tells = inl c.in-Ok.ensures.ok;
  };
}

pub returns : goal.returns
returns g c = record {
  tells = record {
    end = c.run.new.input;
    old = c.new-out.result;
    new = c.run.new.out;
    before = c.new-err.result;
    after = c.run.new.err;
    writer = c.new-out.ensures.inner;
    no_write = c.new-out.ensures.faults;
    teller = c.new-err.ensures.inner;
    no_line = c.new-err.ensures.faults;
    tells = inr (record {
      halt = c.in-Err.halt;
      not_done = c.in-Err.ensures.err;
      start = c.new-err-in-Err.result;
      last = c.tell_halt.new.err;
      same = c.new-err-in-Err.ensures.inner ∙ c.into_inner.ensures;
      no_line = c.new-err-in-Err.ensures.faults;
      told_is = told_either g.E.Write.contents c.new-err-in-Err.result c.tell_halt.new.err (halt_line c.in-Err.halt) c.tell_halt.result c.tell_halt.ensures.ok c.tell_halt.ensures.err;
      status_is = c.status.ensures;
    });
  };
}
