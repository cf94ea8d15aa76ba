use Rattle.std.proofs.Common.{◌≡◌, ◌++◌, Some, ap, sym, ◌∙◌}
use Rattle.std.specs.String.{string_bytes}
use Rattle.yaml_definitions.specs.model.Event.{full}
use Rattle.yaml_definitions.specs.model.Tag.{is_full}
use Rattle.yaml_mark.proofs.DecodeLemmas.{decoded_yes, decoded_no}
use Rattle.yaml_mark.proofs.decode.glue.Goals as goal

pub returns-then-is_tag-clause-ok : goal.returns-then-is_tag-clause-ok
returns-then-is_tag-clause-ok c = λ text e.
    let b : string_bytes c.push_str-2.new.self ≡ c.args.front.now ++ c.args.back.now = c.in_ok-push_str-2.ensures.bytes ∙ ap (λ z. z ++ c.args.back.now) (c.in_ok-push_str.ensures.bytes ∙ ap (λ z. z ++ c.args.front.now) c.in_ok-tag.ensures.bytes) in
    let t = ap is_full (e ∙ sym b ∙ sym c.as_str.ensures.value) ∙ sym c.is_tag.ensures ∙ c.if-is_tag.true in
    ap (λ x. Some (full x)) (b ∙ sym e) ∙ sym (decoded_yes text t)

pub returns-else-is_tag-clause-ok : goal.returns-else-is_tag-clause-ok
returns-else-is_tag-clause-ok c = λ text e.
    let b : string_bytes c.push_str-2.new.self ≡ c.args.front.now ++ c.args.back.now = c.in_ok-push_str-2.ensures.bytes ∙ ap (λ z. z ++ c.args.back.now) (c.in_ok-push_str.ensures.bytes ∙ ap (λ z. z ++ c.args.front.now) c.in_ok-tag.ensures.bytes) in
    sym (decoded_no text (ap is_full (e ∙ sym b ∙ sym c.as_str.ensures.value) ∙ sym c.is_tag.ensures ∙ c.if-is_tag.false))
