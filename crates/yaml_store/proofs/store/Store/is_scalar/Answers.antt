use Rattle.std.proofs.Common.{rules, ◌≡◌, length, Some, refl, sym, subst}
use Rattle.std.specs.List.{slice_get}
use Rattle.std.proofs.lemmas.Bool.{ltb-true}
use Rattle.std.proofs.lemmas.Option.{slice_get_read}
use Rattle.yaml_store.specs.declared.nodes.Kind.TheVariants as kinds
use Rattle.yaml_store.specs.StoreGrows.{tags_of}
use Rattle.yaml_store.proofs.StoreLaws.{scalar-seen}
use Rattle.yaml_store.specs.TextModel.{text_of}
use Rattle.yaml_store.proofs.store.Store.is_scalar.Goals as goal

pub returns : goal.returns
returns c = λ good yes.
    let s = c.args.self.now in
    let n = c.in-Some.node.now in
    let there : slice_get s.nodes.items c.args.seen ≡ Some n =
    subst (λ z. slice_get z c.args.seen ≡ Some n) c.deref.ensures.value (slice_get_read c.deref.result.now (length c.deref.result.now) c.args.seen n refl (ltb-true c.args.seen (length c.deref.result.now) (sym c.in-Some.ensures.lookup.0)) c.in-Some.ensures.lookup.1) in
    let k : n.kind ≡ kinds.Scalar = search rules in
    let t : n.tag ≡ c.args.tag = search rules in
    scalar-seen (tags_of s) (text_of s.text) s.items.items s.entries.items s.nodes.items good c.args.seen n there c.args.tag t k c.args.content.now
    (c.has.ensures yes)
