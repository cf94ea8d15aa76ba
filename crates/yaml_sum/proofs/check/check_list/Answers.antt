use Rattle.yaml_sum.proofs.CheckLaws.{list_checked, lines_cut, list_cut}
use Rattle.yaml_sum.proofs.check.check_list.Goals as goal

pub returns-in-Err-clause-err : goal.returns-in-Err-clause-err
returns-in-Err-clause-err g c =
    lines_cut (g.S.Shelf.holds c.args.shelf.now) g.R.Read.remaining g.W.Write.contents g.E.Write.contents c.args.rules c.manner_of-manner.result c.args.list.now c.read_list.new.bytes.items c.as_slice-text.result.now c.args.input.now c.read_list.new.input c.check_lines.new.input c.args.out.now c.check_lines.new.out c.args.err.now
    c.check_lines.new.err c.in-Err.fault c.manner_of-manner.ensures.rules c.manner_of-manner.ensures.form c.as_slice-text.ensures.value c.in_ok-read_list.ensures.ok c.in-Err.ensures.cut

pub returns-in-Ok-close-clause-ok : goal.returns-in-Ok-close-clause-ok
returns-in-Ok-close-clause-ok g c =
    list_checked (g.S.Shelf.holds c.args.shelf.now) g.R.Read.remaining g.W.Write.contents g.E.Write.contents c.args.rules c.manner_of-manner.result c.args.list.now c.read_list.new.bytes.items c.as_slice-text.result.now c.args.input.now c.read_list.new.input c.check_lines.new.input c.args.out.now c.check_lines.new.out c.args.err.now
    c.check_lines.new.err c.close.new.err c.in-Ok.told c.in-Ok-close.status c.manner_of-manner.ensures.rules c.manner_of-manner.ensures.form c.as_slice-text.ensures.value c.in_ok-read_list.ensures.ok c.in-Ok.ensures.ok c.in-Ok.ensures.counted c.in-Ok-close.ensures.ok

pub returns-clause-err : goal.returns-clause-err
returns-clause-err g c =
    list_cut (g.S.Shelf.holds c.args.shelf.now) g.R.Read.remaining g.W.Write.contents g.E.Write.contents c.args.rules c.manner_of-manner.result c.args.list.now c.read_list.new.bytes.items c.as_slice-text.result.now c.args.input.now c.read_list.new.input c.check_lines.new.input c.args.out.now c.check_lines.new.out c.args.err.now
    c.check_lines.new.err c.close.new.err c.in-Ok.told c.into.result c.manner_of-manner.ensures.rules c.manner_of-manner.ensures.form c.as_slice-text.ensures.value c.in_ok-read_list.ensures.ok c.in-Ok.ensures.ok c.into.ensures c.in-Err-close.ensures.quiet
