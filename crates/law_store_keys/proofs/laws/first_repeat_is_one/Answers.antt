use Rattle.yaml_tree.proofs.FirstRepeats.{one-first}
use Rattle.law_store_keys.proofs.laws.first_repeat_is_one.Goals as goal

pub returns : goal.returns
returns c = one-first
