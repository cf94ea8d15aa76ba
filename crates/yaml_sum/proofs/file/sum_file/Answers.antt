use Rattle.std.proofs.Common.{rules}
use Rattle.yaml_sum.proofs.SumLaws.{line_sent, line_cut, line_none}
use Rattle.yaml_sum.proofs.file.sum_file.Goals as goal

pub returns-in_err-write_whole-in-Ok-clause-cut : goal.returns-in_err-write_whole-in-Ok-clause-cut
returns-in_err-write_whole-in-Ok-clause-cut g c =
    let b = line_cut (g.S.Shelf.holds c.args.shelf.now) g.R.Read.remaining g.W.Write.contents g.E.Write.contents c.args.name.now c.args.input.now c.line_of.new.input c.args.out.now c.write_whole.new.out c.args.err.now _ _
    c.in_err-write_whole-in-Ok.field-0.0 c.in-Ok.ensures.ok c.as_slice.ensures.value c.in_err-write_whole-in-Ok.ensures.err in
    search (rules, b)

pub returns-in_ok-write_whole-in-Ok-clause-ok : goal.returns-in_ok-write_whole-in-Ok-clause-ok
returns-in_ok-write_whole-in-Ok-clause-ok g c =
    line_sent (g.S.Shelf.holds c.args.shelf.now) g.R.Read.remaining g.W.Write.contents g.E.Write.contents c.args.name.now c.args.input.now c.line_of.new.input c.args.out.now c.write_whole.new.out c.args.err.now _ _ c.in-Ok.ensures.ok
    c.as_slice.ensures.value c.in_ok-write_whole-in-Ok.ensures.ok

pub returns-in_ok-tell-in-Err-clause-ok : goal.returns-in_ok-tell-in-Err-clause-ok
returns-in_ok-tell-in-Err-clause-ok g c =
    line_none (g.S.Shelf.holds c.args.shelf.now) g.R.Read.remaining g.W.Write.contents g.E.Write.contents c.args.name.now c.args.input.now c.line_of.new.input c.args.out.now c.args.err.now c.tell.new.err c.in-Err.stop c.status.result
    c.in-Err.ensures.err c.in_ok-tell-in-Err.ensures.ok c.status.ensures
