use Rattle.std.proofs.Common.{refl, inl, inr}
use Rattle.clap.specs.Words.{kind_of}
use Rattle.review_command.proofs.CommandLaws.{cut_off, help_words}
use Rattle.review_command.proofs.command.told.Goals as goal

pub returns-in-Ok-write_out : goal.returns-in-Ok-write_out
returns-in-Ok-write_out g c =
    help_words g.W.Write.contents g.E.Write.contents c.args.out c.args.err 0 (kind_of c.args.error) c.use_stderr.result c.use_stderr.ensures c.if-use_stderr.false
    (record {
      text = c.as_bytes.result.now;
      old = c.new-out.result;
      new = c.write_out.new.out;
      writer = c.new-out.ensures.inner;
      no_write = c.new-out.ensures.faults;
      ends = inl (c.in-Ok-write_out.ensures.ok, refl);
    })

pub returns : goal.returns
returns g c =
    help_words g.W.Write.contents g.E.Write.contents c.args.out c.args.err c.tell_bare-in-Err-write_out.result (kind_of c.args.error) c.use_stderr.result c.use_stderr.ensures c.if-use_stderr.false
    (record {
      text = c.as_bytes.result.now;
      old = c.new-out.result;
      new = c.write_out.new.out;
      writer = c.new-out.ensures.inner;
      no_write = c.new-out.ensures.faults;
      ends = inr (cut_off g.W.Write.contents g.E.Write.contents c.args.err c.tell_bare-in-Err-write_out.result c.as_bytes.result.now c.new-out.result c.write_out.new.out c.tell_bare-in-Err-write_out.new.err c.in-Err-write_out.fault
          c.in-Err-write_out.ensures.err c.tell_bare-in-Err-write_out.ensures.status c.tell_bare-in-Err-write_out.ensures.told);
    })
