use Rattle.std.proofs.Common.{length}
use Rattle.yaml_sum.specs.Checking.{Checking}
use Rattle.yaml_sum.proofs.check.check_each.Given as goal

abbrev pub invariant-lines : goal.invariant-lines
invariant-lines g l =
    Checking (g.S.Shelf.holds l.shelf) g.R.Read.remaining g.W.Write.contents g.E.Write.contents l.manner l.list l.rest l.told l.initial.input l.input l.initial.out l.out l.initial.err l.err

abbrev pub decreases-lines : goal.decreases-lines
decreases-lines g l = length l.rest
