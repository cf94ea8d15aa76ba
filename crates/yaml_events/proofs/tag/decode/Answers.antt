use Rattle.std.proofs.Common.{◌≡◌, [], true, false, sym, ap, ◌∙◌}
use Rattle.std.specs.Cow.{cow_str_bytes}
use Rattle.percent_encoding.specs.Percent.{percent_decode}
use Rattle.yaml_definitions.specs.model.Tag.{is_full}
use Rattle.yaml_definitions.specs.canonical.TagText.{encoded}
use Rattle.yaml_events.proofs.Tags.{decoded_is, undecoded}
use Rattle.yaml_events.proofs.tag.decode.Goals as goal

pub returns-in_err-tag : goal.returns-in_err-tag
returns-in_err-tag c =
    undecoded c.args.text.now c.percent_decode.result.bytes.now c.from_residual.result c.in_err-tag.field-0.0 (c.percent_decode.ensures.bytes ∙ ap percent_decode c.as_bytes.ensures.value) c.from_residual.ensures.1 c.in_err-tag.ensures.utf8

pub returns-then-not-is_full : goal.returns-then-not-is_full
returns-then-not-is_full c = λ a h.
    let tag : cow_str_bytes c.in_ok-tag.tag ≡ percent_decode c.args.text.now = c.in_ok-tag.ensures.value ∙ c.percent_decode.ensures.bytes ∙ ap percent_decode c.as_bytes.ensures.value in
    let e : c.as_str.result.now ≡ a = c.as_str.ensures.value ∙ tag ∙ decoded_is c.args.text.now a h in
    let q : false ≡ true = c.if-not-is_full.ensures ∙ ap is_full e ∙ h.0 in
    absurd (cc)

pub returns-then-not-branch : goal.returns-then-not-branch
returns-then-not-branch c = λ a h.
    let tag : cow_str_bytes c.in_ok-tag.tag ≡ percent_decode c.args.text.now = c.in_ok-tag.ensures.value ∙ c.percent_decode.ensures.bytes ∙ ap percent_decode c.as_bytes.ensures.value in
    let e : c.as_str-2.result.now ≡ a = c.as_str-2.ensures.value ∙ tag ∙ decoded_is c.args.text.now a h in
    let q : false ≡ true = sym c.if-not-branch.true ∙ c.in_ok-is_encoding.ensures.1 (h.1 ∙ ap (λ x. encoded x []) (sym e)) in
    absurd (cc)

pub returns : goal.returns
returns c =
    let tag : cow_str_bytes c.in_ok-tag.tag ≡ percent_decode c.args.text.now = c.in_ok-tag.ensures.value ∙ c.percent_decode.ensures.bytes ∙ ap percent_decode c.as_bytes.ensures.value in (
      (ap is_full (sym c.as_str.ensures.value) ∙ sym c.if-not-is_full.ensures, c.in_ok-is_encoding.ensures.0 c.if-not-branch.false ∙ ap (λ x. encoded x []) c.as_str-2.ensures.value),
      λ a h. tag ∙ decoded_is c.args.text.now a h,
    )
