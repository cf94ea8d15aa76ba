use Rattle.std.proofs.Common.{None, Some, option_map, ap, subst, rules}
use Rattle.yaml_sum.specs.Names.{IsCut}
use Rattle.yaml_sum.proofs.CheckLaws.{checking_none, checking_more, checking_last, counted_last, checking_cut}
use Rattle.yaml_sum.proofs.check.check_each.Goals as goal

pub lines-init : goal.lines-init
lines-init g c = checking_none (g.S.Shelf.holds c.args.shelf.now) g.R.Read.remaining g.W.Write.contents g.E.Write.contents c.args.manner c.args.list.now _ c.args.input.now c.args.out.now c.args.err.now c.nothing-told.ensures

pub returns-in_err-seen-clause-cut : goal.returns-in_err-seen-clause-cut
returns-in_err-seen-clause-cut g c =
    let b = checking_cut (g.S.Shelf.holds c.args.shelf.now) g.R.Read.remaining g.W.Write.contents g.E.Write.contents c.args.manner c.args.list.now c.lines.rest.now c.cut.result.0.now c.line_text-line.result.now (option_map (λ s. s.now) c.cut.result.1) c.lines.told c.args.input.now c.lines.input c.args.out.now c.lines.out
    c.check_line.new.out c.args.err.now c.lines.err c.check_line.new.err c.in_err-seen.field-0.0 c.requires c.lines.invariant c.cut.ensures c.line_text-line.ensures c.in_err-seen.ensures.cut in
    search (rules, b)

pub lines-preserved : goal.lines-preserved
lines-preserved g c =
    let cut : IsCut 10 c.lines.rest.now c.cut.result.0.now (Some c.in-Some.more.now) = subst (IsCut 10 c.lines.rest.now c.cut.result.0.now) (ap (option_map (λ s. s.now)) c.in-Some.is) c.cut.ensures in
    checking_more (g.S.Shelf.holds c.args.shelf.now) g.R.Read.remaining g.W.Write.contents g.E.Write.contents c.args.manner c.args.list.now c.lines.rest.now c.cut.result.0.now c.line_text-line.result.now c.in-Some.more.now c.lines.told c.with-told.result c.in_ok-seen.seen c.args.input.now c.lines.input c.check_line.new.input
    c.args.out.now c.lines.out c.check_line.new.out c.args.err.now c.lines.err c.check_line.new.err c.lines.invariant cut c.line_text-line.ensures c.in_ok-seen.ensures.ok c.with-told.ensures

pub returns-in-None-clause-ok : goal.returns-in-None-clause-ok
returns-in-None-clause-ok g c =
    let cut : IsCut 10 c.lines.rest.now c.cut.result.0.now None = subst (IsCut 10 c.lines.rest.now c.cut.result.0.now) (ap (option_map (λ s. s.now)) c.in-None.is) c.cut.ensures in
    checking_last (g.S.Shelf.holds c.args.shelf.now) g.R.Read.remaining g.W.Write.contents g.E.Write.contents c.args.manner c.args.list.now c.lines.rest.now c.cut.result.0.now c.line_text-line.result.now c.lines.told c.with-told.result c.in_ok-seen.seen c.args.input.now c.lines.input c.check_line.new.input c.args.out.now c.lines.out
    c.check_line.new.out c.args.err.now c.lines.err c.check_line.new.err c.lines.invariant cut c.line_text-line.ensures c.in_ok-seen.ensures.ok c.with-told.ensures

pub returns-in-None-clause-counted : goal.returns-in-None-clause-counted
returns-in-None-clause-counted g c =
    let cut : IsCut 10 c.lines.rest.now c.cut.result.0.now None = subst (IsCut 10 c.lines.rest.now c.cut.result.0.now) (ap (option_map (λ s. s.now)) c.in-None.is) c.cut.ensures in
    counted_last (g.S.Shelf.holds c.args.shelf.now) g.R.Read.remaining g.W.Write.contents g.E.Write.contents c.args.manner c.args.list.now c.lines.rest.now c.cut.result.0.now c.line_text-line.result.now c.lines.told c.with-told.result c.in_ok-seen.seen c.args.input.now c.lines.input c.check_line.new.input c.args.out.now c.lines.out
    c.check_line.new.out c.args.err.now c.lines.err c.check_line.new.err c.lines.invariant cut c.line_text-line.ensures c.in_ok-seen.ensures.ok c.with-told.ensures
