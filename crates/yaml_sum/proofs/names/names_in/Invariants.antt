use Rattle.std.proofs.Common.{◌≡◌, ◌++◌, length, map}
use Rattle.yaml_sum.specs.Names.{pieces, all_named}
use Rattle.yaml_sum.proofs.names.names_in.Given as goal

abbrev pub invariant-pieces : goal.invariant-pieces
invariant-pieces l = all_named (pieces l.end l.list) ≡ map (λ s. s.now) l.names.items ++ all_named (pieces l.end l.rest)

abbrev pub decreases-pieces : goal.decreases-pieces
decreases-pieces l = length l.rest
