use Rattle.yaml_definitions.proofs.TreeLaws as laws
use Rattle.yaml_definitions.proofs.laws.trees_are_ordered.Goals as goal

pub returns-clause-total : goal.returns-clause-total
returns-clause-total c = laws.order_is_total

pub returns-clause-tells : goal.returns-clause-tells
returns-clause-tells c = laws.order_tells
