use Rattle.std.proofs.Common.{◌≡◌, length, sym, ◌∙◌, ap, subst, rules}
use Rattle.std.specs.List.{slice_range}
use Rattle.yaml_tree.specs.View.{content, items, entries}
use Rattle.yaml_store.specs.declared.nodes.Place.TheVariants.{Scalar, Sequence, Mapping}
use Rattle.yaml_store.specs.TextModel.{text_of}
use Rattle.yaml_store.specs.StoreModel.{place_of, Within}
use Rattle.yaml_store_rank.proofs.WalkedLaws.{first-within, tag-within, place-within, tag-shown, inside-shown, content-text, content-whole, same-numbers, same-pairs}
use Rattle.yaml_store_rank.proofs.ranking.Ranked.shown.Goals as goal

pub index-requires-2 : goal.index-requires-2
index-requires-2 c =
    let w = c.requires.listed in
    let C = c.args.self.now in
    let r = c.args.rank in
    let i = c.index.result.now in
    let t = first-within w.0 w.1 C w.2 r i c.requires.within c.index.ensures in
    search rules

pub get-tag-requires : goal.get-tag-requires
get-tag-requires c =
    let w = c.requires.listed in
    tag-within w.0 w.1 c.args.self.now w.2 c.args.rank c.index.result.now c.index-2.result.now c.requires.within c.index.ensures c.index-2.ensures

pub slice_bounds-result-count : goal.slice_bounds-result-count
slice_bounds-result-count c =
    let w = c.requires.listed in
    let C = c.args.self.now in
    let r = c.args.rank in
    let i = c.index.result.now in
    let n = c.index-2.result.now in
    let l = c.requires.within in
    let p = subst (Within (length (text_of C.text)) (length C.items.items) (length C.entries.items)) (sym c.place.ensures ∙ c.in-Sequence.is) (place-within w.0 w.1 C w.2 r i n l c.index.ensures c.index-2.ensures) in
    let a = p.0 in
    let b = p.1 in
    search rules

pub slice_bounds-result-start : goal.slice_bounds-result-start
slice_bounds-result-start c =
    let w = c.requires.listed in
    let C = c.args.self.now in
    let r = c.args.rank in
    let i = c.index.result.now in
    let n = c.index-2.result.now in
    let l = c.requires.within in
    let p = subst (Within (length (text_of C.text)) (length C.items.items) (length C.entries.items)) (sym c.place.ensures ∙ c.in-Sequence.is) (place-within w.0 w.1 C w.2 r i n l c.index.ensures c.index-2.ensures) in
    let a = p.0 in
    let b = p.1 in
    search rules

pub slice_bounds-result-end : goal.slice_bounds-result-end
slice_bounds-result-end c =
    let w = c.requires.listed in
    let C = c.args.self.now in
    let r = c.args.rank in
    let i = c.index.result.now in
    let n = c.index-2.result.now in
    let l = c.requires.within in
    let p = subst (Within (length (text_of C.text)) (length C.items.items) (length C.entries.items)) (sym c.place.ensures ∙ c.in-Sequence.is) (place-within w.0 w.1 C w.2 r i n l c.index.ensures c.index-2.ensures) in
    let a = p.0 in
    let b = p.1 in
    search rules

pub slice_bounds-result-count-in-Mapping : goal.slice_bounds-result-count-in-Mapping
slice_bounds-result-count-in-Mapping c =
    let w = c.requires.listed in
    let C = c.args.self.now in
    let r = c.args.rank in
    let i = c.index.result.now in
    let n = c.index-2.result.now in
    let l = c.requires.within in
    let p = subst (Within (length (text_of C.text)) (length C.items.items) (length C.entries.items)) (sym c.place.ensures ∙ c.in-Mapping.is) (place-within w.0 w.1 C w.2 r i n l c.index.ensures c.index-2.ensures) in
    let a = p.0 in
    let b = p.1 in
    search rules

pub slice_bounds-result-start-in-Mapping : goal.slice_bounds-result-start-in-Mapping
slice_bounds-result-start-in-Mapping c =
    let w = c.requires.listed in
    let C = c.args.self.now in
    let r = c.args.rank in
    let i = c.index.result.now in
    let n = c.index-2.result.now in
    let l = c.requires.within in
    let p = subst (Within (length (text_of C.text)) (length C.items.items) (length C.entries.items)) (sym c.place.ensures ∙ c.in-Mapping.is) (place-within w.0 w.1 C w.2 r i n l c.index.ensures c.index-2.ensures) in
    let a = p.0 in
    let b = p.1 in
    search rules

pub slice_bounds-result-end-in-Mapping : goal.slice_bounds-result-end-in-Mapping
slice_bounds-result-end-in-Mapping c =
    let w = c.requires.listed in
    let C = c.args.self.now in
    let r = c.args.rank in
    let i = c.index.result.now in
    let n = c.index-2.result.now in
    let l = c.requires.within in
    let p = subst (Within (length (text_of C.text)) (length C.items.items) (length C.entries.items)) (sym c.place.ensures ∙ c.in-Mapping.is) (place-within w.0 w.1 C w.2 r i n l c.index.ensures c.index-2.ensures) in
    let a = p.0 in
    let b = p.1 in
    search rules

pub returns-in-Sequence-clause-tag : goal.returns-in-Sequence-clause-tag
returns-in-Sequence-clause-tag c =
    let w = c.requires.listed in
    let C = c.args.self.now in
    let r = c.args.rank in
    let i = c.index.result.now in
    let n = c.index-2.result.now in
    let l = c.requires.within in
    tag-shown w.0 w.1 C w.2 r i n l c.index.ensures c.index-2.ensures c.get-tag.result.now c.get-tag.ensures

pub returns-in-Mapping-clause-tag : goal.returns-in-Mapping-clause-tag
returns-in-Mapping-clause-tag c =
    let w = c.requires.listed in
    let C = c.args.self.now in
    let r = c.args.rank in
    let i = c.index.result.now in
    let n = c.index-2.result.now in
    let l = c.requires.within in
    tag-shown w.0 w.1 C w.2 r i n l c.index.ensures c.index-2.ensures c.get-tag.result.now c.get-tag.ensures

pub returns-in-Scalar-clause-tag : goal.returns-in-Scalar-clause-tag
returns-in-Scalar-clause-tag c =
    let w = c.requires.listed in
    let C = c.args.self.now in
    let r = c.args.rank in
    let i = c.index.result.now in
    let n = c.index-2.result.now in
    let l = c.requires.within in
    tag-shown w.0 w.1 C w.2 r i n l c.index.ensures c.index-2.ensures c.get-tag.result.now c.get-tag.ensures

pub returns-in-Sequence-clause-inside : goal.returns-in-Sequence-clause-inside
returns-in-Sequence-clause-inside c =
    let w = c.requires.listed in
    let C = c.args.self.now in
    let r = c.args.rank in
    let i = c.index.result.now in
    let n = c.index-2.result.now in
    let l = c.requires.within in
    let a = c.in-Sequence.span.start in
    let b = c.in-Sequence.span.end in
    let at : Sequence c.in-Sequence.span ≡ place_of n = sym c.in-Sequence.is ∙ c.place.ensures in
    let q = ap (λ z. slice_range z a b) (sym c.deref.ensures.value) ∙ same-numbers (slice_range c.deref.result.now a b) in
    sym (ap items q) ∙ inside-shown w.0 w.1 C w.2 r i n l c.index.ensures c.index-2.ensures (Sequence c.in-Sequence.span) at

pub returns-in-Mapping-clause-inside : goal.returns-in-Mapping-clause-inside
returns-in-Mapping-clause-inside c =
    let w = c.requires.listed in
    let C = c.args.self.now in
    let r = c.args.rank in
    let i = c.index.result.now in
    let n = c.index-2.result.now in
    let l = c.requires.within in
    let a = c.in-Mapping.span.start in
    let b = c.in-Mapping.span.end in
    let at : Mapping c.in-Mapping.span ≡ place_of n = sym c.in-Mapping.is ∙ c.place.ensures in
    let q = ap (λ z. slice_range z a b) (sym c.deref-in-Mapping.ensures.value) ∙ same-pairs (slice_range c.deref-in-Mapping.result.now a b) in
    sym (ap entries q) ∙ inside-shown w.0 w.1 C w.2 r i n l c.index.ensures c.index-2.ensures (Mapping c.in-Mapping.span) at

pub content-requires-clause-whole : goal.content-requires-clause-whole
content-requires-clause-whole c =
    let w = c.requires.listed in
    let n = c.index-2.result.now in
    content-whole w.0 w.1 c.args.self.now w.2 c.args.rank c.index.result.now n c.requires.within c.index.ensures c.index-2.ensures c.in-Scalar.span (sym c.in-Scalar.is ∙ c.place.ensures)

pub content-requires-clause-within : goal.content-requires-clause-within
content-requires-clause-within c =
    let w = c.requires.listed in
    let C = c.args.self.now in
    subst (Within (length (text_of C.text)) (length C.items.items) (length C.entries.items)) (sym c.place.ensures ∙ c.in-Scalar.is) (place-within w.0 w.1 C w.2 c.args.rank c.index.result.now c.index-2.result.now c.requires.within c.index.ensures c.index-2.ensures)

pub content-requires-clause-utf8 : goal.content-requires-clause-utf8
content-requires-clause-utf8 c =
    let w = c.requires.listed in
    content-text w.0 w.1 c.args.self.now w.2 c.args.rank c.index.result.now c.index-2.result.now c.requires.within c.index.ensures c.index-2.ensures c.in-Scalar.span (sym c.in-Scalar.is ∙ c.place.ensures)

pub returns-in-Scalar-clause-inside : goal.returns-in-Scalar-clause-inside
returns-in-Scalar-clause-inside c =
    let w = c.requires.listed in
    let n = c.index-2.result.now in
    let at : Scalar c.in-Scalar.span ≡ place_of n = sym c.in-Scalar.is ∙ c.place.ensures in
    ap content c.content.ensures ∙ inside-shown w.0 w.1 c.args.self.now w.2 c.args.rank c.index.result.now n c.requires.within c.index.ensures c.index-2.ensures (Scalar c.in-Scalar.span) at
