use Rattle.yaml_text.specs.EventModel.{context_of}
use Rattle.yaml_text.specs.Source.{text_of}
use Rattle.yaml_text.proofs.Tests.{on_false_at}
use Rattle.yaml_scalar.proofs.PlainLemmas.{no_text_line, no_later_line}
use Rattle.yaml_scalar.proofs.plain.line_below.Goals as goal

pub returns-in-Err-clause-none : goal.returns-in-Err-clause-none
returns-in-Err-clause-none c = no_text_line (text_of c.args.source.now) c.args.least (context_of c.args.context) _ c.in-Err.ensures.none

pub returns-else-is_later-clause-none : goal.returns-else-is_later-clause-none
returns-else-is_later-clause-none c =
    let f = c.in-Ok.ensures in
    no_later_line (text_of c.args.source.now) c.args.least (context_of c.args.context) _ _ _ f.breaks f.text (on_false_at c.is_later.result c.if-is_later.false c.is_later.ensures.no)
