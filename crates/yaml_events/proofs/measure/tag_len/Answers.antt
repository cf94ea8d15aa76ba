use Rattle.std.proofs.Common.{Global, [], ap, arith, length, length-append}
use Rattle.std.specs.Prelude.{codes}
use Rattle.std.specs.Cow.{cow_str_bytes}
use Rattle.yaml_definitions.specs.canonical.TagText.{encoded}
use Rattle.yaml_events.proofs.TagText.{encoded_then}
use Rattle.yaml_events.proofs.measure.tag_len.Goals as goal

pub returns-in-Full-clause-len : goal.returns-in-Full-clause-len
returns-in-Full-clause-len c =
    let tag = cow_str_bytes {Z = Global} c.in-Full.full in
    rw c.in-Full.is (omega (arith, c.encoded_len.ensures.len, ap (λ z. length (encoded z [])) c.as_str.ensures.value, ap length (encoded_then tag (codes ">")), length-append (encoded tag []) (codes ">")))
