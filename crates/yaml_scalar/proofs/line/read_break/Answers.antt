use Rattle.std.proofs.Common.{sym, ◌∙◌}
use Rattle.yaml_text.specs.Source.{text_of}
use Rattle.yaml_text.specs.EventModel.{context_of}
use Rattle.yaml_scalar.proofs.GapLemmas.{no_breaks_key, no_breaks_here, no_breaks_lead, breaks_is}
use Rattle.yaml_text.proofs.Breaks.{starts_line}
use Rattle.yaml_scalar.proofs.line.read_break.Goals as goal

pub returns-then-is_key-clause-none : goal.returns-then-is_key-clause-none
returns-then-is_key-clause-none c = no_breaks_key (text_of c.args.source.now) c.args.least (context_of c.args.context) _ (sym c.is_key.ensures ∙ c.if-is_key.true)

pub read_lead-requires-clause-start : goal.read_lead-requires-clause-start
read_lead-requires-clause-start c = starts_line (text_of c.args.source.now) _ _ c.in-Some.ensures.some

pub returns-in-None-clause-none : goal.returns-in-None-clause-none
returns-in-None-clause-none c = no_breaks_here (text_of c.args.source.now) c.args.least (context_of c.args.context) _ c.in-None.ensures.none

pub returns-in-Err-clause-none : goal.returns-in-Err-clause-none
returns-in-Err-clause-none c =
    no_breaks_lead (text_of c.args.source.now) c.args.least (context_of c.args.context) _ _ c.in-Some.ensures.some c.in-Err.ensures.none

pub returns-in-Ok-clause-breaks : goal.returns-in-Ok-clause-breaks
returns-in-Ok-clause-breaks c =
    breaks_is (text_of c.args.source.now) c.args.least (context_of c.args.context) _ _ _ _ (sym c.is_key.ensures ∙ c.if-is_key.false) c.in-Some.ensures.some c.in-Ok.ensures.lead
