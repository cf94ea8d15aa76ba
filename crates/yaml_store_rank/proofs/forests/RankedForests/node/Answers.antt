use Rattle.std.proofs.Common.{◌≡◌, length, sym, ◌∙◌, ap, subst, rules}
use Rattle.std.specs.List.{slice_range}
use Rattle.yaml_tree.specs.View.{content, items, entries}
use Rattle.yaml_store.specs.declared.nodes.Place.TheVariants.{Scalar, Sequence, Mapping}
use Rattle.yaml_store.specs.TextModel.{text_of}
use Rattle.yaml_store.specs.StoreModel.{place_of, Within}
use Rattle.yaml_store_rank.specs.KeyOrder.{numbers, number_pairs}
use Rattle.yaml_store_rank.proofs.KeyOrderLaws.{range-map}
use Rattle.yaml_store_rank.proofs.ForestLaws.{inside_in, tag-within, place-within, content-text, content-whole, held-there}
use Rattle.yaml_store_rank.proofs.forests.RankedForests.node.Goals as goal

pub get-tag-requires : goal.get-tag-requires
get-tag-requires c =
    let v = c.self.inside in
    let n = c.index.result.now in
    tag-within v c.self.invariant c.args.self.now c.self.view_is c.args.id.0 c.requires n c.index.ensures

pub slice_bounds-result-count : goal.slice_bounds-result-count
slice_bounds-result-count c =
    let v = c.self.inside in
    let n = c.index.result.now in
    let p = subst (Within (length (text_of v.text)) (length v.items.items) (length v.entries.items)) (sym c.place.ensures ∙ c.in-Sequence.is) (place-within v c.self.invariant c.args.self.now c.self.view_is c.args.id.0 c.requires n c.index.ensures) in
    let a = p.0 in
    let b = p.1 in
    search rules

pub slice_bounds-result-count-in-Mapping : goal.slice_bounds-result-count-in-Mapping
slice_bounds-result-count-in-Mapping c =
    let v = c.self.inside in
    let n = c.index.result.now in
    let p = subst (Within (length (text_of v.text)) (length v.items.items) (length v.entries.items)) (sym c.place.ensures ∙ c.in-Mapping.is) (place-within v c.self.invariant c.args.self.now c.self.view_is c.args.id.0 c.requires n c.index.ensures) in
    let a = p.0 in
    let b = p.1 in
    search rules

pub slice_bounds-result-start : goal.slice_bounds-result-start
slice_bounds-result-start c =
    let v = c.self.inside in
    let n = c.index.result.now in
    let p = subst (Within (length (text_of v.text)) (length v.items.items) (length v.entries.items)) (sym c.place.ensures ∙ c.in-Sequence.is) (place-within v c.self.invariant c.args.self.now c.self.view_is c.args.id.0 c.requires n c.index.ensures) in
    let a = p.0 in
    let b = p.1 in
    search rules

pub slice_bounds-result-start-in-Mapping : goal.slice_bounds-result-start-in-Mapping
slice_bounds-result-start-in-Mapping c =
    let v = c.self.inside in
    let n = c.index.result.now in
    let p = subst (Within (length (text_of v.text)) (length v.items.items) (length v.entries.items)) (sym c.place.ensures ∙ c.in-Mapping.is) (place-within v c.self.invariant c.args.self.now c.self.view_is c.args.id.0 c.requires n c.index.ensures) in
    let a = p.0 in
    let b = p.1 in
    search rules

pub slice_bounds-result-end : goal.slice_bounds-result-end
slice_bounds-result-end c =
    let v = c.self.inside in
    let n = c.index.result.now in
    let p = subst (Within (length (text_of v.text)) (length v.items.items) (length v.entries.items)) (sym c.place.ensures ∙ c.in-Sequence.is) (place-within v c.self.invariant c.args.self.now c.self.view_is c.args.id.0 c.requires n c.index.ensures) in
    let a = p.0 in
    let b = p.1 in
    search rules

pub slice_bounds-result-end-in-Mapping : goal.slice_bounds-result-end-in-Mapping
slice_bounds-result-end-in-Mapping c =
    let v = c.self.inside in
    let n = c.index.result.now in
    let p = subst (Within (length (text_of v.text)) (length v.items.items) (length v.entries.items)) (sym c.place.ensures ∙ c.in-Mapping.is) (place-within v c.self.invariant c.args.self.now c.self.view_is c.args.id.0 c.requires n c.index.ensures) in
    let a = p.0 in
    let b = p.1 in
    search rules

pub content-requires-clause-whole : goal.content-requires-clause-whole
content-requires-clause-whole c =
    let v = c.self.inside in
    let n = c.index.result.now in
    content-whole v c.self.invariant c.args.self.now c.self.view_is c.args.id.0 c.requires n c.index.ensures c.in-Scalar.span (sym c.in-Scalar.is ∙ c.place.ensures)

pub content-requires-clause-utf8 : goal.content-requires-clause-utf8
content-requires-clause-utf8 c =
    let v = c.self.inside in
    let n = c.index.result.now in
    content-text v c.self.invariant c.args.self.now c.self.view_is c.args.id.0 c.requires n c.index.ensures c.in-Scalar.span (sym c.in-Scalar.is ∙ c.place.ensures)

pub content-requires-clause-within : goal.content-requires-clause-within
content-requires-clause-within c =
    let v = c.self.inside in
    let n = c.index.result.now in
    subst (Within (length (text_of v.text)) (length v.items.items) (length v.entries.items)) (sym c.place.ensures ∙ c.in-Scalar.is) (place-within v c.self.invariant c.args.self.now c.self.view_is c.args.id.0 c.requires n c.index.ensures)

pub returns-in-Scalar : goal.returns-in-Scalar
returns-in-Scalar c =
    let v = c.self.inside in
    let n = c.index.result.now in
    let at : Scalar c.in-Scalar.span ≡ place_of n = sym c.in-Scalar.is ∙ c.place.ensures in
    held-there v c.self.invariant c.args.self.now c.self.view_is c.args.id.0 c.requires n c.index.ensures _ _ c.get-tag.ensures (ap content c.content.ensures ∙ ap (inside_in v) at)

pub returns-in-Sequence : goal.returns-in-Sequence
returns-in-Sequence c =
    let v = c.self.inside in
    let n = c.index.result.now in
    let a = c.in-Sequence.span.start in
    let b = c.in-Sequence.span.end in
    let at : Sequence c.in-Sequence.span ≡ place_of n = sym c.in-Sequence.is ∙ c.place.ensures in
    let q = ap (λ z. numbers (slice_range z a b)) c.deref.ensures.value ∙ range-map (λ i. i.0) v.items.items a b in
    held-there v c.self.invariant c.args.self.now c.self.view_is c.args.id.0 c.requires n c.index.ensures _ _ c.get-tag.ensures (ap items q ∙ ap (inside_in v) at)

pub returns-in-Mapping : goal.returns-in-Mapping
returns-in-Mapping c =
    let v = c.self.inside in
    let n = c.index.result.now in
    let a = c.in-Mapping.span.start in
    let b = c.in-Mapping.span.end in
    let at : Mapping c.in-Mapping.span ≡ place_of n = sym c.in-Mapping.is ∙ c.place.ensures in
    let q = ap (λ z. number_pairs (slice_range z a b)) c.deref-in-Mapping.ensures.value ∙ range-map (λ p. (p.0.0, p.1.0)) v.entries.items a b in
    held-there v c.self.invariant c.args.self.now c.self.view_is c.args.id.0 c.requires n c.index.ensures _ _ c.get-tag.ensures (ap entries q ∙ ap (inside_in v) at)
