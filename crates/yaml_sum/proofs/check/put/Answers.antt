use Rattle.std.proofs.Common.{◌∙◌}
use Rattle.yaml_sum.proofs.CheckLaws.{puts, puts_not}
use Rattle.yaml_sum.proofs.check.put.Goals as goal

pub returns-clause-ok : goal.returns-clause-ok
returns-clause-ok g c =
    puts g.W.Write.contents g.E.Write.contents c.args.rules c.args.name.now c.args.finding c.args.out.now c.write_whole.new.out c.args.err.now c.tell_found.new.err c.as_slice.result.now c.write_whole.result (c.as_slice.ensures.value ∙ c.in_ok-make_verdict.ensures.ok) c.in_ok-tell_found.ensures.ok
    c.write_whole.ensures.ok

pub returns-clause-cut : goal.returns-clause-cut
returns-clause-cut g c =
    puts_not g.W.Write.contents g.E.Write.contents c.args.rules c.args.name.now c.args.finding c.args.out.now c.write_whole.new.out c.args.err.now c.tell_found.new.err c.as_slice.result.now c.write_whole.result (c.as_slice.ensures.value ∙ c.in_ok-make_verdict.ensures.ok) c.in_ok-tell_found.ensures.ok
    c.write_whole.ensures.err
