use Rattle.std.proofs.Common.{ap, ◌∙◌}
use Rattle.std.specs.Cow.{cow_str_bytes}
use Rattle.std.specs.Prelude.{Some}
use Rattle.yaml_definitions.specs.model.Tree.{scalar}
use Rattle.yaml_store.specs.StoreGrows.{tags_of}
use Rattle.yaml_store.proofs.StoreLaws.{tag-is, kept-both}
use Rattle.yaml_store.proofs.store.Store.scalar.Goals as goal

pub returns-clause-kept : goal.returns-clause-kept
returns-clause-kept c = λ good.
    let k = c.in_ok-tag.ensures.kept good in
    let t = tag-is (tags_of c.tag.new.self) c.in_ok-tag.tag c.args.tag.now c.in_ok-tag.ensures.is in
    kept-both c.args.self.now c.tag.new.self c.scalar_of.new.self k (c.in_ok-id.ensures.kept k.good t.within)

pub returns-clause-stands : goal.returns-clause-stands
returns-clause-stands c = λ good.
    let t = tag-is (tags_of c.tag.new.self) c.in_ok-tag.tag c.args.tag.now c.in_ok-tag.ensures.is in
    c.in_ok-id.ensures.stands (c.in_ok-tag.ensures.kept good).good t.within ∙ ap (λ g. Some (scalar g (cow_str_bytes c.args.content.now))) t.is
