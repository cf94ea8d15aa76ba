use Rattle.std.proofs.Common.{rules}
use Rattle.yaml_command.proofs.Answering.{events_unread}
use Rattle.yaml_command.proofs.files.events_of_file.Goals as goal

pub returns-in_err-events-clause-err : goal.returns-in_err-events-clause-err
returns-in_err-events-clause-err g c =
    let e = c.from_residual-in_err-events.ensures in
    let f = events_unread g.W.Write.contents g.S.File.Read.remaining (g.S.Shelf.holds c.args.shelf.now c.args.name.now) c.args.name.now c.in_ok-file.file c.events.new.input c.args.out.now c.events.new.out c.in_err-events.field-0.0 c.in_ok-file.ensures.ok c.in_err-events.ensures.err in
    search (rules, e, f)
