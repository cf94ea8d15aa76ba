use Rattle.yaml_pair.specs.Named.{Keeps}
use Rattle.yaml_pair.proofs.turn.pair_in_turn.Given as goal

abbrev pub invariant-loop-pair : goal.invariant-loop-pair
invariant-loop-pair l = Keeps l.fn.partners l.partners
