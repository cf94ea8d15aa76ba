use Rattle.std.proofs.Common.{◌≡◌, ℕ, ◌<◌, List, [], length, map, slice_index_or, sym, ◌∙◌, ap, subst, arith}
use Rattle.std.specs.List.{All}
use Rattle.std.specs.String.{string_bytes}
use Rattle.std.proofs.lemmas.List.{length-map, get_or-map}
use Rattle.yaml_store.specs.declared.tags.Part.{Part}
use Rattle.yaml_store.specs.StoreModel.{tag_at}
use Rattle.yaml_store.specs.TagTexts.{part_of, IsPart}
use Rattle.yaml_store.proofs.ContentLaws.{begins, ends}
use Rattle.yaml_store.proofs.tags.Tags.at.Goals as goal

-- the place of a tag is among the places
within : (text : List ℕ) (spans : List Part) (tags : List (List ℕ)) (place : ℕ) → map (part_of text) spans ≡ tags → place < length tags → place < length spans
within text spans tags place is l = omega (arith, l, ap length is, length-map spans (part_of text))

-- and a text stands there
there : (text part : List ℕ) (spans : List Part) (place : ℕ) (s : Part) → All (IsPart text) spans → place < length spans → s ≡ slice_index_or spans place s → part ≡ text → IsPart part s
there text part spans place s all l e is = subst (λ z. IsPart z s) (sym is) (subst (IsPart text) (sym e) (all place s l))

pub range-requires-clause-start_boundary : goal.range-requires-clause-start_boundary
range-requires-clause-start_boundary c =
    let text = string_bytes c.self.inside.text in
    let spans = c.self.inside.parts.items in
    let s = c.index-part.result.now in
    let p = there text c.deref.result.now spans c.args.place s c.self.invariant (within text spans c.args.self.now c.args.place c.self.view_is c.requires) c.index-part.ensures c.deref.ensures in
    λ some. begins c.deref.result.now s.start s.end c.deref.utf8 p.1 p.0.1 c.if-part.false

pub range-requires-clause-end_boundary : goal.range-requires-clause-end_boundary
range-requires-clause-end_boundary c =
    let text = string_bytes c.self.inside.text in
    let spans = c.self.inside.parts.items in
    let s = c.index-part.result.now in
    let p = there text c.deref.result.now spans c.args.place s c.self.invariant (within text spans c.args.self.now c.args.place c.self.view_is c.requires) c.index-part.ensures c.deref.ensures in
    ends c.deref.result.now s.start s.end c.deref.utf8 p.1 p.0.1 c.if-part.false

pub returns : goal.returns
returns c =
    let text = string_bytes c.self.inside.text in
    let spans = c.self.inside.parts.items in
    let place = c.args.place in
    let s = c.index-part.result.now in
    let l = within text spans c.args.self.now place c.self.view_is c.requires in
    let is = get_or-map (part_of text) spans place s [] l ∙ ap (part_of text) (sym c.index-part.ensures) in
    c.range.ensures.value ∙ (ap (λ z. part_of z s) c.deref.ensures ∙ (sym is ∙ ap (λ z. tag_at z place) c.self.view_is))
