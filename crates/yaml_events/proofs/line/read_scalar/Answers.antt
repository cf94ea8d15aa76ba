use Rattle.std.proofs.Common.{Global, ◌≡◌, List, ℕ}
use Rattle.std.specs.Option.{option_map}
use Rattle.std.specs.Cow.{cow_str_bytes}
use Rattle.yaml_text.specs.EventModel.{written_of, style_of}
use Rattle.yaml_definitions.specs.model.EventText.{value_text}
use Rattle.yaml_events.specs.Parts.{IsProps, EndsProps, IsSigned, IsScalarLine}
use Rattle.yaml_events.proofs.Lines.{props_seen, sign_seen, scalar_seen, scalar_props, scalar_sign, scalar_value, scalar_only, scalar_is}
use Rattle.yaml_events.proofs.Reading.{passed_on}
use Rattle.yaml_events.proofs.line.read_scalar.Goals as goal

pub returns-in_err-anchor-clause-reads : goal.returns-in_err-anchor-clause-reads
returns-in_err-anchor-clause-reads c =
    let text : List ℕ = c.args.text.now in
    passed_on (IsScalarLine text) (IsScalarLine text) scalar_seen
    (IsProps text) (λ p. IsProps text p × EndsProps p) props_seen
    c.from_residual.result c.in_err-anchor.field-0.0 c.from_residual.ensures.1 c.in_err-anchor.ensures (scalar_props text)

pub returns-in_err-style-clause-reads : goal.returns-in_err-style-clause-reads
returns-in_err-style-clause-reads c =
    let text : List ℕ = c.args.text.now in
    let rest : List ℕ = c.in_ok-anchor.rest.now in
    passed_on (IsScalarLine text) (IsScalarLine text) scalar_seen
    (IsSigned rest) (IsSigned rest) sign_seen
    c.from_residual-in_err-style.result c.in_err-style.field-0.0 c.from_residual-in_err-style.ensures.1 c.in_err-style.ensures
    (scalar_sign text rest (option_map (cow_str_bytes {Z = Global}) c.in_ok-anchor.anchor) (written_of c.in_ok-anchor.tag) c.in_ok-anchor.ensures.1)

pub returns-in_err-content-clause-reads : goal.returns-in_err-content-clause-reads
returns-in_err-content-clause-reads c =
    let text : List ℕ = c.args.text.now in
    let rest : List ℕ = c.in_ok-anchor.rest.now in
    let value : List ℕ = c.in_ok-style.value.now in
    passed_on (IsScalarLine text) (IsScalarLine text) scalar_seen
    (λ x. value ≡ value_text x) (λ x. value ≡ value_text x) (cow_str_bytes {Z = Global})
    c.from_residual-in_err-content.result c.in_err-content.field-0.0 c.from_residual-in_err-content.ensures.1 c.in_err-content.ensures.reads
    (scalar_value text rest value (option_map (cow_str_bytes {Z = Global}) c.in_ok-anchor.anchor) (written_of c.in_ok-anchor.tag) (style_of c.in_ok-style.style) c.in_ok-anchor.ensures.1 c.in_ok-style.ensures.1)

pub returns-clause-reads : goal.returns-clause-reads
returns-clause-reads c =
    let text : List ℕ = c.args.text.now in
    let rest : List ℕ = c.in_ok-anchor.rest.now in
    let value : List ℕ = c.in_ok-style.value.now in
    let x = cow_str_bytes {Z = Global} c.in_ok-content.content in
    let a = option_map (cow_str_bytes {Z = Global}) c.in_ok-anchor.anchor in
    let g = written_of c.in_ok-anchor.tag in
    let y = style_of c.in_ok-style.style in (
      scalar_is text rest value x a g y c.in_ok-anchor.ensures.0 c.in_ok-style.ensures.0 c.in_ok-content.ensures.reads.0,
      scalar_only text rest value x a g y c.in_ok-anchor.ensures.1 c.in_ok-style.ensures.1 c.in_ok-content.ensures.reads.1,
    )
