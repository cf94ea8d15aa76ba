use Rattle.std.proofs.Common.{refl}
use Rattle.yaml_text.specs.EventModel.{event_of}
use Rattle.yaml_event_text.proofs.LineLaws.{lines_put, grown}
use Rattle.yaml_event_text.proofs.lines.LinesKeeper.push.Goals as goal

pub returns-clause-ok : goal.returns-clause-ok
returns-clause-ok c = lines_put c.args.self.now _ (event_of c.args.event.now) (grown c.args.self.now c.begin_line.new.self _ _ c.in_ok-begin_line.ensures.ok c.in_ok-push_line.ensures.ok refl refl)
