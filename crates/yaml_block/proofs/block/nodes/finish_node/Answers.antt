use Rattle.std.proofs.Common.{inl, inr}
use Rattle.yaml_text.specs.Source.{text_of}
use Rattle.yaml_text.proofs.Tests.{on_true_at, on_false_at}
use Rattle.yaml_block.proofs.LineDecisions.{comments_after}
use Rattle.yaml_block.proofs.block.nodes.finish_node.Goals as goal

pub returns-then-overlaps-clause-unfit : goal.returns-then-overlaps-clause-unfit
returns-then-overlaps-clause-unfit c = inr (inl (on_true_at c.overlaps.result c.if-overlaps.true c.overlaps.ensures.yes))

pub returns-then-not-may_bear-clause-unfit : goal.returns-then-not-may_bear-clause-unfit
returns-then-not-may_bear-clause-unfit c = inr (inr (on_false_at c.may_bear.result c.if-not-may_bear.true c.may_bear.ensures.no))

pub returns-clause-ends : goal.returns-clause-ends
returns-clause-ends c =
    let n = c.in_ok-line.ensures in record {
      line = n.line;
      onward = n.onward;
      comments = n.comments;
      after = comments_after (text_of c.args.source.now) _ _ n.comments;
      apart = on_false_at c.overlaps.result c.if-overlaps.false c.overlaps.ensures.no;
      bears = on_true_at c.may_bear.result c.if-not-may_bear.false c.may_bear.ensures.yes;
    }
