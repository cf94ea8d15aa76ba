use Rattle.std.proofs.Common.{map, take}
use Rattle.yaml_sum.specs.Sums.{SumsSome}
use Rattle.yaml_sum.proofs.sum.sum_each.Given as goal

abbrev pub invariant-names : goal.invariant-names
invariant-names g l =
    SumsSome (g.S.Shelf.holds l.shelf) g.R.Read.remaining g.W.Write.contents g.E.Write.contents (take l.name-index (map (λ s. s.now) l.names)) l.initial.input l.input l.initial.out l.out l.initial.err l.err l.worst
