use Rattle.std.proofs.Common.{ap, sym, ◌∙◌}
use Rattle.std.specs.Cow.{cow_str_bytes}
use Rattle.yaml_mark.specs.PrefixModel.{made_of}
use Rattle.yaml_mark.proofs.DecodeLemmas.{same_decode}
use Rattle.yaml_mark.proofs.decoded.decode_prefix.Goals as goal

pub returns-in-Ok-Borrowed-clause-ok : goal.returns-in-Ok-Borrowed-clause-ok
returns-in-Ok-Borrowed-clause-ok c = sym (ap cow_str_bytes c.in-Ok-Borrowed.field-0-is) ∙ c.in-Ok-Borrowed.ensures.value ∙ c.percent_decode_str.ensures.bytes ∙ same_decode c.args.prefix.now

pub returns-in_ok-made-in-Ok-Owned-clause-ok : goal.returns-in_ok-made-in-Ok-Owned-clause-ok
returns-in_ok-made-in-Ok-Owned-clause-ok c =
    ap made_of c.in_ok-made-in-Ok-Owned.ensures.ok ∙ sym (ap cow_str_bytes c.in-Ok-Owned.field-0-is) ∙ c.in-Ok-Owned.ensures.value ∙ c.percent_decode_str.ensures.bytes ∙ same_decode c.args.prefix.now

pub returns-in_ok-made-in-Err-Utf8-clause-ok : goal.returns-in_ok-made-in-Err-Utf8-clause-ok
returns-in_ok-made-in-Err-Utf8-clause-ok c =
    ap made_of c.in_ok-made-in-Err-Utf8.ensures.ok ∙ c.in_ok-bytes-in-Err-Utf8.ensures.value ∙ c.percent_decode_str-in-Err-Utf8.ensures.bytes ∙ same_decode c.args.prefix.now
