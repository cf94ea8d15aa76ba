use Rattle.std.proofs.Common.{sym, ◌∙◌}
use Rattle.yaml_mark.proofs.DecodeLemmas.{both_appended, if_ok}
use Rattle.yaml_mark.proofs.decode.join_bytes.Goals as goal

pub returns-clause-ok : goal.returns-clause-ok
returns-clause-ok c =
    let all = both_appended c.args.prefix.now c.args.suffix.now c.as_slice.ensures.value c.in_ok-append_to.ensures.ok c.in_ok-extend_from_slice.ensures.items c.in_ok-bytes.ensures.items c.percent_decode_str.ensures.bytes in
    if_ok c.tag_of.result (λ tag f text e. f text (e ∙ sym all)) c.tag_of.ensures.ok
