use Rattle.std.proofs.Common.{rules, ◌≡◌, length, Some, refl, sym, ◌∙◌, ap, subst}
use Rattle.std.specs.List.{slice_get}
use Rattle.std.proofs.lemmas.Bool.{ltb-true}
use Rattle.std.proofs.lemmas.Option.{slice_get_read}
use Rattle.std.specs.String.{string_bytes}
use Rattle.yaml_store.specs.declared.nodes.Kind.TheVariants as kinds
use Rattle.yaml_store.specs.StoreGrows.{tags_of}
use Rattle.yaml_store.proofs.StoreLaws.{sequence-seen}
use Rattle.yaml_store.specs.TextModel.{text_of}
use Rattle.yaml_store.proofs.store.Store.is_sequence.Goals as goal

pub returns : goal.returns
returns c = λ good yes.
    let s = c.args.self.now in
    let n = c.in-Some.node.now in
    let there : slice_get s.nodes.items c.args.seen ≡ Some n =
    subst (λ z. slice_get z c.args.seen ≡ Some n) c.deref.ensures.value (slice_get_read c.deref.result.now (length c.deref.result.now) c.args.seen n refl (ltb-true c.args.seen (length c.deref.result.now) (sym c.in-Some.ensures.lookup.0)) c.in-Some.ensures.lookup.1) in
    let k : n.kind ≡ kinds.Sequence = search rules in
    let t : n.tag ≡ c.args.tag = search rules in
    sequence-seen (tags_of s) (text_of s.text) s.items.items s.entries.items s.nodes.items good c.args.seen n there c.args.tag t k c.args.items.now
    (ap (λ z. Rattle.std.specs.List.slice_range z n.span.start n.span.end) (sym c.deref-2.ensures.value) ∙ c.has_items.ensures yes)
