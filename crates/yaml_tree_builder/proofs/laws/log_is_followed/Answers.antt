use Rattle.yaml_tree_builder.proofs.LogLaws.{follows-none, follows-step, follows-rest}
use Rattle.yaml_tree_builder.proofs.laws.log_is_followed.Goals as goal

pub returns-clause-none : goal.returns-clause-none
returns-clause-none c = follows-none

pub returns-clause-step : goal.returns-clause-step
returns-clause-step c = follows-step

pub returns-clause-rest : goal.returns-clause-rest
returns-clause-rest c = follows-rest
