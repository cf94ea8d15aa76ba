use Rattle.yaml_pair.specs.Named.{AreNamesTo, naming_of}
use Rattle.yaml_pair.proofs.names.names_in.Given as goal

abbrev pub invariant-loop-place : goal.invariant-loop-place
invariant-loop-place l = AreNamesTo l.fn.forests (naming_of l.column) l.items l.places l.place l.names.items
