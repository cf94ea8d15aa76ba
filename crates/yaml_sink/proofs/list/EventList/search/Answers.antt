use Rattle.std.proofs.Common.{◌<◌, ◌+◌, ◌-◌, ◌/◌, length, arith}
use Rattle.yaml_sink.specs.ListModel.{IsBefore}
use Rattle.yaml_sink.proofs.ListLemmas.{below_mark, before_here}
use Rattle.yaml_sink.proofs.list.EventList.search.Goals as goal

pub halves-preserved-then-is_before : goal.halves-preserved-then-is_before
halves-preserved-then-is_before c =
    let ss = c.args.self.now.starts.items in
    let middle = c.halves.low + (c.halves.high - c.halves.low) / 2 in
    let high = c.halves.invariant.within in
    let test = c.halves-test.true in
    let within : middle < length ss = omega (arith, high, test) in
    let before : IsBefore ss middle c.args.mark = c.if-is_before.ensures.yes in
    let below : middle < c.args.mark = below_mark ss middle c.args.mark within before in
    record {
      order = omega (arith, test);
      within = high;
      counted = omega (arith, below);
      before = λ k e. before_here ss middle c.args.mark before k (omega (arith, e));
      behind = c.halves.invariant.behind;
    }
