use Rattle.std.proofs.Common.{rules}
use Rattle.yaml_command.proofs.Answering.{judged_unmatched}
use Rattle.yaml_command.proofs.command.run.Goals as goal

pub returns-in-Check-clause-refused : goal.returns-in-Check-clause-refused
returns-in-Check-clause-refused g c =
    let e = c.judged-in-Check.ensures in
    let f = judged_unmatched _ c.match_files.result c.match_files.ensures.err in
    search (rules, e, f)
