use Rattle.yaml_pair.specs.Named.{GoesOn}
use Rattle.yaml_pair.proofs.steps.put_lefts.Given as goal

abbrev pub invariant-loop-left : goal.invariant-loop-left
invariant-loop-left l = GoesOn l.fn.steps.items l.steps.items
