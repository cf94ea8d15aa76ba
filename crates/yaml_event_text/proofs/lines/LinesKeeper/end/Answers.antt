use Rattle.std.proofs.Common.{subst}
use Rattle.yaml_sink.specs.SinkModel.{end_of}
use Rattle.yaml_event_text.specs.LinesHeld.{Grows}
use Rattle.yaml_event_text.proofs.LineLaws.{lines_put}
use Rattle.yaml_event_text.proofs.lines.LinesKeeper.end.Goals as goal

pub returns-clause-ok : goal.returns-clause-ok
returns-clause-ok c = lines_put c.args.self.now c.put.new.self (end_of c.args.collection) (subst (λ v. Grows c.args.self.now v c.put.new.self) c.end_line.ensures c.in_ok-put.ensures.ok)
