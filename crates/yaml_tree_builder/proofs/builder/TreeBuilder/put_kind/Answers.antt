use Rattle.std.proofs.Common.{◌≡◌, ap, sym, ◌∙◌, subst}
use Rattle.std.specs.Cow.{cow_str_bytes}
use Rattle.std.specs.Prelude.{Some}
use Rattle.std.specs.List.{slice_get}
use Rattle.yaml_definitions.specs.model.Tree.{scalar}
use Rattle.yaml_core.specs.Kind.{kind_tag}
use Rattle.yaml_store.specs.StoreGrows.{Stands, tags_of}
use Rattle.yaml_store.proofs.StoreLaws.{tag-is}
use Rattle.yaml_tree_builder.proofs.FirstsLaws.{comes}
use Rattle.yaml_tree_builder.proofs.builder.TreeBuilder.put_kind.Goals as goal

pub returns : goal.returns
returns c = λ a slot s w h.
    let self = c.args.self.now in
    let new = c.scalar_of.new.self in
    let g = kind_tag c.args.kind in
    let x = (cow_str_bytes c.args.content.now) in
    let tag = c.scalar-tag.result in
    let at : slice_get (tags_of self.store) tag ≡ Some g = subst (λ i. slice_get (tags_of self.store) i ≡ Some g) (sym c.scalar-tag.ensures) (h.good.core.scalars c.args.kind) in
    let d = tag-is (tags_of self.store) tag g at in
    let kept = c.in_ok-id.ensures.kept h.good.store d.within in
    let there : Stands new c.in_ok-id.id (scalar g x) = c.in_ok-id.ensures.stands h.good.store d.within ∙ ap (λ z. Some (scalar z x)) d.is in
    c.in_ok-put.ensures s self.store h kept a slot (scalar g x) w there (comes self.store new c.in_ok-id.id (scalar g x) kept c.in_ok-id.ensures.one there)
