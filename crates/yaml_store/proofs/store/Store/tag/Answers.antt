use Rattle.yaml_store.proofs.StoreLaws.{kept-same, kept-numbers}
use Rattle.yaml_store.proofs.store.Store.tag.Goals as goal

pub returns-then-is_tag-clause-kept : goal.returns-then-is_tag-clause-kept
returns-then-is_tag-clause-kept c = λ good. kept-same c.args.self.now good

pub returns-in-Free-clause-kept : goal.returns-in-Free-clause-kept
returns-in-Free-clause-kept c = λ good. kept-numbers c.args.self.now c.add_tag.new.self c.keep.new.self (c.in_ok-number-in-Free.ensures.kept good)
