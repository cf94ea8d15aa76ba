use Rattle.yaml_text.specs.Source.{text_of}
use Rattle.yaml_mark.proofs.TagLemmas.{is_uri_char}
use Rattle.yaml_mark.proofs.DirectiveLemmas.{bang_prefix, char_prefix, no_start}
use Rattle.yaml_mark.proofs.directive.skip_prefix.Goals as goal

pub returns-in-Some-clause-some : goal.returns-in-Some-clause-some
returns-in-Some-clause-some c = let s = c.in-Some.ensures.some in bang_prefix (text_of c.args.source.now) _ _ _ s.is s.next c.skip_escaped.ensures.spans

pub returns-in-Some-clause-furthest : goal.returns-in-Some-clause-furthest
returns-in-Some-clause-furthest c = λ j r. c.skip_escaped.ensures.furthest j (is_uri_char (text_of c.args.source.now) _ j r)

pub returns-in-Some-next_escaped-clause-some : goal.returns-in-Some-next_escaped-clause-some
returns-in-Some-next_escaped-clause-some c =
    char_prefix (text_of c.args.source.now) _ _ _ c.in-Some-next_escaped.ensures.some c.skip_escaped-in-Some-next_escaped.ensures.spans

pub returns-in-Some-next_escaped-clause-furthest : goal.returns-in-Some-next_escaped-clause-furthest
returns-in-Some-next_escaped-clause-furthest c =
    λ j r. c.skip_escaped-in-Some-next_escaped.ensures.furthest j (is_uri_char (text_of c.args.source.now) _ j r)

pub returns-in-None-next_escaped-clause-none : goal.returns-in-None-next_escaped-clause-none
returns-in-None-next_escaped-clause-none c = no_start (text_of c.args.source.now) _ c.in-None.ensures.none c.in-None-next_escaped.ensures.none
