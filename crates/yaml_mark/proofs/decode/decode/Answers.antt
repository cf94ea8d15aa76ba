use Rattle.std.proofs.Common.{ap, sym, subst, ◌∙◌, Some}
use Rattle.std.specs.Str.{IsUtf8}
use Rattle.yaml_definitions.specs.model.Event.{full}
use Rattle.yaml_definitions.specs.model.Tag.{is_full}
use Rattle.yaml_definitions.specs.grammar.Tags.{percent_decode}
use Rattle.yaml_mark.proofs.DecodeLemmas.{same_decode, decoded_yes, decoded_no, no_utf8}
use Rattle.yaml_mark.proofs.decode.decode.Goals as goal

pub returns-then-is_tag-clause-ok : goal.returns-then-is_tag-clause-ok
returns-then-is_tag-clause-ok c =
    let e = c.in-Ok.ensures.value ∙ c.percent_decode_str.ensures.bytes ∙ same_decode c.args.text.now in
    let t = ap is_full (sym e) ∙ ap is_full (sym c.as_str.ensures.value) ∙ sym c.is_tag.ensures ∙ c.if-is_tag.true in
    ap (λ x. Some (full x)) (c.trimmed.ensures ∙ e) ∙ sym (decoded_yes c.args.text.now t)

pub returns-in-Ok-clause-ok : goal.returns-in-Ok-clause-ok
returns-in-Ok-clause-ok c =
    let e = c.in-Ok.ensures.value ∙ c.percent_decode_str.ensures.bytes ∙ same_decode c.args.text.now in
    let t = ap is_full (sym e) ∙ ap is_full (sym c.as_str.ensures.value) ∙ sym c.is_tag.ensures ∙ c.if-is_tag.false in
    sym (decoded_no c.args.text.now t)

pub returns-in-Err-Utf8-clause-ok : goal.returns-in-Err-Utf8-clause-ok
returns-in-Err-Utf8-clause-ok c =
    let e = c.percent_decode_str.ensures.bytes ∙ same_decode c.args.text.now in
    sym (decoded_no c.args.text.now (no_utf8 (percent_decode c.args.text.now) (λ u. let k = c.in-Err-Utf8.ensures.utf8 (subst IsUtf8 (sym e) u) in cc)))
