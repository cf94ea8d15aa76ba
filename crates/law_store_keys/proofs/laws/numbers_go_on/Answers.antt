use Rattle.yaml_tree.proofs.NumberLaws.{closes-again, closes-first}
use Rattle.law_store_keys.proofs.laws.numbers_go_on.Goals as goal

pub returns-clause-stay : goal.returns-clause-stay
returns-clause-stay c = closes-again

pub returns-clause-grow : goal.returns-clause-grow
returns-clause-grow c = closes-first
