use Rattle.std.proofs.Common.{rules}
use Rattle.yaml_command.proofs.Answering.{canon_unread}
use Rattle.yaml_command.proofs.files.canon_file.Goals as goal

pub returns-in_err-run_canonical-clause-err : goal.returns-in_err-run_canonical-clause-err
returns-in_err-run_canonical-clause-err g c =
    let e = c.from_residual-in_err-run_canonical.ensures in
    let f = canon_unread g.W.Write.contents g.S.File.Read.remaining (g.S.Shelf.holds c.args.shelf.now c.args.name.now) c.args.name.now c.in_ok-file.file c.run_canonical.new.input c.args.out.now c.run_canonical.new.out c.in_err-run_canonical.field-0.0 c.in_ok-file.ensures.ok c.in_err-run_canonical.ensures.err in
    search (rules, e, f)
