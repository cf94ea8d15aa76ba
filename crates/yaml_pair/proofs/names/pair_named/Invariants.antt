use Rattle.std.proofs.Common.{length, map, take}
use Rattle.yaml_pair.specs.Named.{Within, HasPairs, EqualPairs, PairsBy, naming_of}
use Rattle.yaml_pair.proofs.names.pair_named.Given as goal

abbrev pub invariant-loop-column : goal.invariant-loop-column
invariant-loop-column l =
    Within l.fn.forests l.lefts l.rights → HasPairs l.fn.partners (length l.lefts) (length l.rights) (EqualPairs l.fn.forests l.lefts l.rights) → HasPairs l.partners (length l.lefts) (length l.rights) (PairsBy l.fn.forests l.lefts l.rights (map naming_of (take l.column-index l.columns)))
