use Rattle.yaml_pair.specs.Named.{StepsTo}
use Rattle.yaml_pair.proofs.steps.steps_of.Given as goal

abbrev pub invariant-loop-right : goal.invariant-loop-right
invariant-loop-right l = StepsTo l.first l.partners l.right-counter l.steps.items
