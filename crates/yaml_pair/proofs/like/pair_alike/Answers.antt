use Rattle.yaml_pair.proofs.JoinLaws.{keeps-more}
use Rattle.yaml_pair.proofs.like.pair_alike.Goals as goal

pub loop-left-preserved : goal.loop-left-preserved
loop-left-preserved c = keeps-more c.args.partners.now c.loop-left.partners c.take.new.self c.loop-left.invariant c.take.ensures.keeps
