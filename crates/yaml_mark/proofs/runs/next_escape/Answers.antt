use Rattle.yaml_text.specs.Source.{text_of}
use Rattle.yaml_mark.proofs.UriLemmas.{escape_is, no_percent, no_high, no_low}
use Rattle.yaml_mark.proofs.runs.next_escape.Goals as goal

pub returns-in-None-clause-none : goal.returns-in-None-clause-none
returns-in-None-clause-none c = no_percent (text_of c.args.source.now) _ c.in-None.ensures.none

pub returns-in-None-next_digit-clause-none : goal.returns-in-None-next_digit-clause-none
returns-in-None-next_digit-clause-none c = no_high (text_of c.args.source.now) _ _ c.in-Some.ensures.some.next c.in-None-next_digit.ensures.none

pub returns-in-None-next_digit-2-clause-none : goal.returns-in-None-next_digit-2-clause-none
returns-in-None-next_digit-2-clause-none c =
    no_low (text_of c.args.source.now) _ _ _ c.in-Some.ensures.some.next c.in-Some-next_digit.ensures.some c.in-None-next_digit-2.ensures.none

pub returns-in-Some-next_digit-2-clause-some : goal.returns-in-Some-next_digit-2-clause-some
returns-in-Some-next_digit-2-clause-some c =
    let s = c.in-Some.ensures.some in
    escape_is (text_of c.args.source.now) _ _ _ _ s.is s.next c.in-Some-next_digit.ensures.some c.in-Some-next_digit-2.ensures.some
