use Rattle.std.proofs.Common.{◌+◌}
use Rattle.yaml_event_text.proofs.StartLaws.{moved_more}
use Rattle.yaml_event_text.proofs.starts.move_on.Goals as goal

pub loop-start-preserved : goal.loop-start-preserved
loop-start-preserved c = moved_more (λ at. at + c.args.by) c.args.starts.now c.loop-start.starts c.loop-start.start-index _ c.in_ok-start.field-0 c.loop-start-test.true c.loop-start.invariant c.in_ok-start.ensures.ok
