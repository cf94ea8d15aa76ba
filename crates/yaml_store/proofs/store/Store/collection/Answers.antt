use Rattle.yaml_store.proofs.StoreLaws.{kept-memo}
use Rattle.yaml_store.proofs.store.Store.collection.Goals as goal

pub returns-then-id-seen-clause-kept : goal.returns-then-id-seen-clause-kept
returns-then-id-seen-clause-kept c = λ fits. kept-memo c.args.self.now c.add_collection.new.self c.keep.new.self (c.in_ok-id.ensures.kept fits)
