use Rattle.std.proofs.Common.{subst, sym}
use Rattle.yaml_tree.specs.Places.{InOrder}
use Rattle.yaml_store_rank.proofs.EqualLaws.{equal-or-differ}
use Rattle.yaml_store_rank.proofs.equal.first_equal.Goals as goal

pub returns : goal.returns
returns c =
    let ns = c.args.numbers.now in
    let is = subst (InOrder ns) (sym c.deref.ensures.value) c.in_ok-order.ensures in
    equal-or-differ ns c.deref.result.now is c.equal_neighbours.result (c.equal_neighbours.ensures ns is)
