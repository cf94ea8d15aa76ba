use Rattle.yaml_store.proofs.StoreLaws.{sound-none, trees-none}
use Rattle.yaml_store.proofs.store.Store.new.Goals as goal

pub returns-clause-good : goal.returns-clause-good
returns-clause-good c = sound-none _ _ _ _ c.new-7.result.items c.new-7.ensures.items

pub returns-clause-empty : goal.returns-clause-empty
returns-clause-empty c = trees-none _ _ _ _ c.new-7.result.items c.new-7.ensures.items
