use Rattle.yaml_conflicts.proofs.WalkLaws.{total, Walked}
use Rattle.yaml_conflicts.proofs.walk.+conflicts.Given as goal

abbrev pub decreases-conflicts : goal.decreases-conflicts
decreases-conflicts l = total l.sides

abbrev pub invariant-loop-key : goal.invariant-loop-key
invariant-loop-key l = Walked l.forests l.given l.sides l.key-items l.key-index l.found
