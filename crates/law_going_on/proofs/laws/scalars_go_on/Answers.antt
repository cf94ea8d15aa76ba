use Rattle.std.specs.Prelude.{true, false}
use Rattle.law_going_on.proofs.PlainScalars.{plain_block_goes}
use Rattle.law_going_on.proofs.FlowChoices.{plain_in_flow}
use Rattle.yaml_scalar.proofs.DoubleReadings.{double_same}
use Rattle.law_one_reading.proofs.FlowLevels.{single_same}
use Rattle.law_going_on.proofs.BlockScalars.{block_scalar_goes}
use Rattle.law_one_reading.specs.Follows.{Stuck}
use Rattle.law_going_on.proofs.laws.scalars_go_on.Goals as goal

pub returns-clause-plain : goal.returns-clause-plain
returns-clause-plain c = λ cs col d i x w (r, far). plain_block_goes cs col d i x w r far

pub returns-clause-plain_in_flow : goal.returns-clause-plain_in_flow
returns-clause-plain_in_flow c = λ cs n i x w (r, far). plain_in_flow cs n i x w r far

pub returns-clause-single : goal.returns-clause-single
returns-clause-single c = λ cs n d i j k v w r s. (single_same cs n d i j k v w r s).0

pub returns-clause-double : goal.returns-clause-double
returns-clause-double c = λ cs n d i j k v w r s. (double_same cs n d i j k v w r s).0

pub returns-clause-literal : goal.returns-clause-literal
returns-clause-literal c = λ cs col i x w (r, far). block_scalar_goes cs false col (Stuck cs) (λ m s. s) i x w r far

pub returns-clause-folded : goal.returns-clause-folded
returns-clause-folded c = λ cs col i x w (r, far). block_scalar_goes cs true col (Stuck cs) (λ m s. s) i x w r far
