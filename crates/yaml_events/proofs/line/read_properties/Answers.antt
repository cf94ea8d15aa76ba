use Rattle.std.proofs.Common.{Global, List, ℕ}
use Rattle.std.specs.Option.{option_map}
use Rattle.std.specs.Cow.{cow_str_bytes}
use Rattle.yaml_text.specs.EventModel.{written_of}
use Rattle.yaml_events.specs.Parts.{IsAnchored, EndsAnchor, IsTagged, EndsTag, IsProps, EndsProps}
use Rattle.yaml_events.proofs.Lines.{anchor_seen, tag_seen, props_seen, props_anchor, props_tag, props_only, props_are}
use Rattle.yaml_events.proofs.Reading.{passed_on}
use Rattle.yaml_events.proofs.line.read_properties.Goals as goal

pub returns-in_err-anchor : goal.returns-in_err-anchor
returns-in_err-anchor c =
    let text : List ℕ = c.args.text.now in
    passed_on (IsProps text) (λ p. IsProps text p × EndsProps p) props_seen
    (IsAnchored text) (λ p. IsAnchored text p × EndsAnchor p) anchor_seen
    c.from_residual.result c.in_err-anchor.field-0.0 c.from_residual.ensures.1 c.in_err-anchor.ensures (props_anchor text)

pub returns-in_err-tag : goal.returns-in_err-tag
returns-in_err-tag c =
    let text : List ℕ = c.args.text.now in
    let rest : List ℕ = c.in_ok-anchor.rest.now in
    passed_on (IsProps text) (λ p. IsProps text p × EndsProps p) props_seen
    (IsTagged rest) (λ p. IsTagged rest p × EndsTag p) tag_seen
    c.from_residual-in_err-tag.result c.in_err-tag.field-0.0 c.from_residual-in_err-tag.ensures.1 c.in_err-tag.ensures
    (props_tag text rest (option_map (cow_str_bytes {Z = Global}) c.in_ok-anchor.anchor) c.in_ok-anchor.ensures.1)

pub returns : goal.returns
returns c =
    let text : List ℕ = c.args.text.now in
    let rest : List ℕ = c.in_ok-anchor.rest.now in
    let after : List ℕ = c.in_ok-tag.after.now in
    let a = c.in_ok-anchor.ensures in
    let g = c.in_ok-tag.ensures in (
      props_are text rest after (option_map (cow_str_bytes {Z = Global}) c.in_ok-anchor.anchor) (written_of c.in_ok-tag.tag) a.0 g.0,
      props_only text rest after (option_map (cow_str_bytes {Z = Global}) c.in_ok-anchor.anchor) (written_of c.in_ok-tag.tag) a.1 g.1,
    )
