use Rattle.std.proofs.Common.{None, subst}
use Rattle.yaml_definitions.specs.model.Event.{mapping_start, untagged}
use Rattle.yaml_event_text.specs.LinesHeld.{Inserts}
use Rattle.yaml_event_text.proofs.LineLaws.{lines_inserted}
use Rattle.yaml_event_text.proofs.lines.LinesKeeper.insert.Goals as goal

pub returns-clause-ok : goal.returns-clause-ok
returns-clause-ok c =
    lines_inserted c.args.self.now c.put_before.new.self c.args.start (mapping_start c.args.flow None untagged)
    (subst (λ v. Inserts c.args.self.now c.args.start v c.put_before.new.self) c.start_line.ensures c.in_ok-put_before.ensures.ok)
