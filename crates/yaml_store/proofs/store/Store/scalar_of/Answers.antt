use Rattle.yaml_store.proofs.StoreLaws.{kept-memo}
use Rattle.yaml_store.proofs.store.Store.scalar_of.Goals as goal

pub returns-then-id-seen-clause-kept : goal.returns-then-id-seen-clause-kept
returns-then-id-seen-clause-kept c = λ good tagged. kept-memo c.args.self.now c.add_scalar.new.self c.keep.new.self (c.in_ok-id.ensures.kept good tagged)
