use Rattle.yaml_definitions.proofs.TreeLaws as laws
use Rattle.yaml_definitions.proofs.laws.same_is_equivalence.Goals as goal

pub returns-clause-itself : goal.returns-clause-itself
returns-clause-itself c = laws.same_to_itself

pub returns-clause-either_way : goal.returns-clause-either_way
returns-clause-either_way c = laws.same_either_way

pub returns-clause-goes_on : goal.returns-clause-goes_on
returns-clause-goes_on c = laws.same_goes_on

pub returns-clause-arranged : goal.returns-clause-arranged
returns-clause-arranged c = laws.same_is_arranged
