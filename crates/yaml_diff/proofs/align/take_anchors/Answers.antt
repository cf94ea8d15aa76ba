use Rattle.yaml_diff.proofs.AlignLaws.{from_end}
use Rattle.yaml_diff.proofs.align.take_anchors.Goals as goal

pub returns : goal.returns
returns c = record {
  ok = (
      let i = c.loop-anchor.invariant in
      let from = c.args.from in
      let to = c.args.to in
      let at = c.loop-anchor.at in
      from_end c.take_turns-2.result c.args.list.now.items c.loop-anchor.list.items c.take_turns-2.new.list.items from.0 from.1 at.0 at.1 to.0 to.1 i.left i.within i.right i.within_too i.so_far c.take_turns-2.ensures.ok);
}
