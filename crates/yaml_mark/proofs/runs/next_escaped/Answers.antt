use Rattle.std.proofs.Common.{sym, ◌∙◌}
use Rattle.yaml_text.specs.Source.{text_of}
use Rattle.yaml_mark.specs.Classes.{class_of}
use Rattle.yaml_mark.proofs.UriLemmas.{letter_is, escaped_is, no_escaped, nothing_escaped}
use Rattle.yaml_mark.proofs.runs.next_escaped.Goals as goal

pub returns-then-has-clause-some : goal.returns-then-has-clause-some
returns-then-has-clause-some c =
    let s = c.in-Some.ensures.some in letter_is (text_of c.args.source.now) (class_of c.args.class) _ _ _ s.is (sym c.has.ensures ∙ c.if-has.true) s.next

pub returns-in-None-clause-none : goal.returns-in-None-clause-none
returns-in-None-clause-none c = nothing_escaped (text_of c.args.source.now) (class_of c.args.class) _ c.in-None.ensures.none

pub returns-in-None-next_escape-clause-none : goal.returns-in-None-next_escape-clause-none
returns-in-None-next_escape-clause-none c =
    no_escaped (text_of c.args.source.now) (class_of c.args.class) _ _ c.in-Some.ensures.some.is (sym c.has.ensures ∙ c.if-has.false) c.in-None-next_escape.ensures.none

pub returns-in-Some-next_escape-clause-some : goal.returns-in-Some-next_escape-clause-some
returns-in-Some-next_escape-clause-some c = escaped_is (text_of c.args.source.now) (class_of c.args.class) _ _ c.in-Some-next_escape.ensures.some
