use Rattle.yaml_conflicts.proofs.StreamLaws.{counts-are}
use Rattle.yaml_conflicts.proofs.streams.are_long.Goals as goal

pub returns : goal.returns
returns c = counts-are c.args.forests.now c.args.left.now c.args.right.now
