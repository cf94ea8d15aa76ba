use Rattle.yaml_store.proofs.StoreLaws.{kept-same, kept-numbers}
use Rattle.yaml_store.proofs.store.Store.other_tag.Goals as goal

pub returns-then-is_tag-clause-kept : goal.returns-then-is_tag-clause-kept
returns-then-is_tag-clause-kept c = λ good. kept-same c.args.self.now good

pub returns-clause-kept : goal.returns-clause-kept
returns-clause-kept c = λ good. kept-numbers c.args.self.now c.add_tag.new.self c.keep_other.new.self (c.in_ok-number.ensures.kept good)
