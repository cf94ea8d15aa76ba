use Rattle.yaml_text.specs.Source.{text_of}
use Rattle.yaml_text.proofs.LineRuns.{inside_uncut}
use Rattle.yaml_scalar.proofs.OutcomeLemmas.{refuses_unread}
use Rattle.yaml_text.proofs.RestLemmas.{blank_after, to_s_b, from_s_b}
use Rattle.yaml_scalar.proofs.HeaderLemmas.{indicators_inside, header_is, no_header, hash_no_rest}
use Rattle.yaml_scalar.proofs.block.header.read_header.Goals as goal

pub skip_blank-requires-clause-uncut : goal.skip_blank-requires-clause-uncut
skip_blank-requires-clause-uncut c =
    let cs = text_of c.args.source.now in
    inside_uncut cs _ (indicators_inside cs _ _ _ c.read_indicators-end.ensures.indicators c.requires.inside)

pub returns-in-Some-clause-none : goal.returns-in-Some-clause-none
returns-in-Some-clause-none c =
    let cs = text_of c.args.source.now in
    let n = c.read_indicators-end.ensures in
    refuses_unread c.header_fault.result c.header_fault.ensures.unread
    (no_header cs _ _ n.only (hash_no_rest cs _ (indicators_inside cs _ _ _ n.indicators c.requires.inside) c.in-Some.ensures.some.is))

pub returns-in-Some-skip_blank-clause-after : goal.returns-in-Some-skip_blank-clause-after
returns-in-Some-skip_blank-clause-after c = blank_after (text_of c.args.source.now) _ _ c.in-Some-skip_blank.ensures.some

pub returns-in-Some-skip_blank-clause-header : goal.returns-in-Some-skip_blank-clause-header
returns-in-Some-skip_blank-clause-header c =
    let cs = text_of c.args.source.now in
    header_is cs _ _ _ _ c.read_indicators-end.ensures.indicators (to_s_b cs _ _ c.in-Some-skip_blank.ensures.some c.in-None.ensures.none)

pub returns-in-None-skip_blank-clause-none : goal.returns-in-None-skip_blank-clause-none
returns-in-None-skip_blank-clause-none c =
    let cs = text_of c.args.source.now in
    refuses_unread c.header_fault-in-None-skip_blank.result c.header_fault-in-None-skip_blank.ensures.unread
    (no_header cs _ _ c.read_indicators-end.ensures.only (λ j r. c.in-None-skip_blank.ensures.none j (from_s_b cs _ j r)))
