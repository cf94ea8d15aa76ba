use Rattle.yaml_pair.specs.Columns.{RisesTo}
use Rattle.yaml_pair.proofs.column.rises.Given as goal

abbrev pub invariant-loop-index : goal.invariant-loop-index
invariant-loop-index l = RisesTo l.column l.index l.last
