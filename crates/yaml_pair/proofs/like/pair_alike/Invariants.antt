use Rattle.yaml_pair.specs.Named.{Keeps}
use Rattle.yaml_pair.proofs.like.pair_alike.Given as goal

abbrev pub invariant-loop-left : goal.invariant-loop-left
invariant-loop-left l = Keeps l.fn.partners l.partners
