use Rattle.std.proofs.Common.{List, [], ℕ, ap, ◌∙◌}
use Rattle.std.proofs.lemmas.Str.{is_utf8-from_IsUtf8}
use Rattle.yaml_definitions.specs.canonical.TagText.{encoded}
use Rattle.yaml_definitions.proofs.ProperLaws.{utf8_bytes}
use Rattle.yaml_events.proofs.Tags.{encoded_whole, encoding_tells}
use Rattle.yaml_events.proofs.tag.is_encoding.Goals as goal

pub returns : goal.returns
returns c =
    let tag : List ℕ = c.args.tag.now in
    let bytes : List ℕ = c.as_bytes.result.now in
    encoding_tells c.eq.result c.as_str.result.now c.args.text.now tag c.eq.ensures
    (c.as_str.ensures.value ∙ c.in_ok-encoded.ensures.value ∙ c.percent_encode.ensures.text ∙ encoded_whole bytes (utf8_bytes bytes (is_utf8-from_IsUtf8 bytes c.as_bytes.ensures.utf8)) ∙ ap (λ x. encoded x []) c.as_bytes.ensures.value)
