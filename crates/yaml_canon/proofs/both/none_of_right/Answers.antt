use Rattle.yaml_canon.proofs.SideLaws.{right-refused, memory-wants}
use Rattle.yaml_canon.proofs.both.none_of_right.Goals as goal

pub returns-in-Ok : goal.returns-in-Ok
returns-in-Ok c = λ left k. memory-wants left c.args.right.now k

pub returns : goal.returns
returns c = λ left k. right-refused left c.args.right.now c.in-Err.fault k c.in-Err.ensures.why
