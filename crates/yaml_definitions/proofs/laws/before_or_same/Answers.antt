use Rattle.yaml_definitions.proofs.TreeLaws as laws
use Rattle.yaml_definitions.proofs.laws.before_or_same.Goals as goal

pub returns-clause-one : goal.returns-clause-one
returns-clause-one c = laws.before_or_same

pub returns-clause-goes_on : goal.returns-clause-goes_on
returns-clause-goes_on c = laws.before_goes_on
