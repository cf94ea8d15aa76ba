use Rattle.std.proofs.Common.{Some, ap, sym, subst, ◌∙◌}
use Rattle.std.specs.Str.{IsUtf8}
use Rattle.yaml_definitions.specs.model.Event.{full}
use Rattle.yaml_definitions.specs.model.Tag.{is_full}
use Rattle.yaml_definitions.specs.grammar.Tags.{percent_decode}
use Rattle.yaml_mark.proofs.DecodeLemmas.{decoded_yes, decoded_no, no_utf8}
use Rattle.yaml_mark.proofs.decode.tag_of.Goals as goal

pub returns-in_ok-from_str-in-Ok-clause-ok : goal.returns-in_ok-from_str-in-Ok-clause-ok
returns-in_ok-from_str-in-Ok-clause-ok c = λ text e.
    let b = c.in-Ok.ensures.0 in
    let t = ap is_full (e ∙ sym b) ∙ sym c.is_tag.ensures ∙ c.if-is_tag.true in
    ap (λ x. Some (full x)) (c.in_ok-from_str-in-Ok.ensures.ok ∙ b ∙ sym e) ∙ sym (decoded_yes text t)

pub returns-else-is_tag-clause-ok : goal.returns-else-is_tag-clause-ok
returns-else-is_tag-clause-ok c = λ text e. sym (decoded_no text (ap is_full (e ∙ sym c.in-Ok.ensures.0) ∙ sym c.is_tag.ensures ∙ c.if-is_tag.false))

pub returns-in-Err-clause-ok : goal.returns-in-Err-clause-ok
returns-in-Err-clause-ok c = λ text e. sym (decoded_no text (no_utf8 (percent_decode text) (λ u. c.in-Err.ensures (subst IsUtf8 e u))))
