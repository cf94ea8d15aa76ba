use Rattle.yaml_pair.specs.Named.{JoinsTo}
use Rattle.yaml_pair.proofs.partners.join.Given as goal

abbrev pub invariant-loop-left : goal.invariant-loop-left
invariant-loop-left l = JoinsTo l.lefts l.rights l.left l.fn.partners l.partners
