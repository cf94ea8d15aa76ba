use Rattle.std.proofs.Common.{Global, ◌≡◌, ◌==◌, true, false, [], List, ℕ, length, sym, ap, ◌∙◌}
use Rattle.std.specs.Option.{option_map}
use Rattle.std.specs.Cow.{cow_str_bytes}
use Rattle.std.proofs.lemmas.Bool.{eqb-true}
use Rattle.std.proofs.lemmas.List.{nil_from_length}
use Rattle.yaml_text.specs.EventModel.{written_of}
use Rattle.yaml_events.specs.Parts.{IsProps, EndsProps, IsCollection}
use Rattle.yaml_events.proofs.Lines.{props_seen, collection_seen, collection_props, collection_ends, collection_only, collection_is}
use Rattle.yaml_events.proofs.Reading.{passed_on}
use Rattle.yaml_events.proofs.line.read_collection.Goals as goal

pub returns-in_err-anchor : goal.returns-in_err-anchor
returns-in_err-anchor c =
    let text : List ℕ = c.args.text.now in
    let mark : List ℕ = c.args.mark.now in
    let rest : List ℕ = c.cut_mark-flow.result.1.now in
    passed_on (IsCollection mark text) (IsCollection mark text) collection_seen
    (IsProps rest) (λ p. IsProps rest p × EndsProps p) props_seen
    c.from_residual.result c.in_err-anchor.field-0.0 c.from_residual.ensures.1 c.in_err-anchor.ensures
    (collection_props mark text rest c.cut_mark-flow.result.0 c.requires c.cut_mark-flow.ensures.1)

pub returns-then-not-is_empty : goal.returns-then-not-is_empty
returns-then-not-is_empty c = λ p h.
    let text : List ℕ = c.args.text.now in
    let mark : List ℕ = c.args.mark.now in
    let rest : List ℕ = c.cut_mark-flow.result.1.now in
    let after : List ℕ = c.in_ok-anchor.after.now in
    let e = collection_ends mark text rest after c.cut_mark-flow.result.0 (option_map (cow_str_bytes {Z = Global}) c.in_ok-anchor.anchor) (written_of c.in_ok-anchor.tag) c.requires c.cut_mark-flow.ensures.1 c.in_ok-anchor.ensures.1 p h in
    let q : false ≡ true = c.if-not-is_empty.ensures ∙ ap (λ z. length z == 0) e in
    absurd (cc)

pub returns : goal.returns
returns c =
    let text : List ℕ = c.args.text.now in
    let mark : List ℕ = c.args.mark.now in
    let rest : List ℕ = c.cut_mark-flow.result.1.now in
    let after : List ℕ = c.in_ok-anchor.after.now in
    let a = option_map (cow_str_bytes {Z = Global}) c.in_ok-anchor.anchor in
    let g = written_of c.in_ok-anchor.tag in
    let e : after ≡ [] = nil_from_length after (eqb-true (length after) 0 (sym c.if-not-is_empty.ensures)) in (
      collection_is mark text rest after c.cut_mark-flow.result.0 a g c.cut_mark-flow.ensures.0 c.in_ok-anchor.ensures.0 e,
      collection_only mark text rest after c.cut_mark-flow.result.0 a g c.requires c.cut_mark-flow.ensures.1 c.in_ok-anchor.ensures.1,
    )
