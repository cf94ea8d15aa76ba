use Rattle.yaml_conflicts.proofs.StreamLaws.{AlikeBelow}
use Rattle.yaml_conflicts.proofs.streams.are_alike.Given as goal

abbrev pub invariant-loop-place : goal.invariant-loop-place
invariant-loop-place l = AlikeBelow l.forests l.left l.right l.place
