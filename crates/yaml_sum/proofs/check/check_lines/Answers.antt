use Rattle.std.proofs.Common.{rules}
use Rattle.yaml_sum.specs.Listed.{all_listings, lines_of}
use Rattle.yaml_sum.proofs.CheckLaws.{flushed, unflushed}
use Rattle.yaml_sum.proofs.check.check_lines.Goals as goal

pub returns-in_err-write_out-clause-cut : goal.returns-in_err-write_out-clause-cut
returns-in_err-write_out-clause-cut g c =
    let b = unflushed (g.S.Shelf.holds c.args.shelf.now) g.R.Read.remaining c.args.manner.rules g.W.Write.contents g.E.Write.contents (all_listings c.args.manner.one_space (lines_of c.args.list.now)) c.args.input.now c.check_each.new.input c.args.out.now c.check_each.new.out c.write_out.new.out c.args.err.now c.check_each.new.err
    c.in_ok-told.told c.in_err-write_out.field-0.0 c.in_ok-told.ensures.ok c.in_err-write_out.ensures.err in
    search (rules, b)
