use Rattle.yaml_text.specs.EventModel.{context_of}
use Rattle.yaml_text.specs.Source.{text_of}
use Rattle.yaml_scalar.proofs.GapLemmas.{no_breaks_here}
use Rattle.yaml_scalar.proofs.PlainLemmas.{no_text_line}
use Rattle.yaml_scalar.proofs.plain.next_line.Goals as goal

pub returns-in-None-clause-none : goal.returns-in-None-clause-none
returns-in-None-clause-none c =
    let cs = text_of c.args.source.now in
    no_text_line cs c.args.least (context_of c.args.context) _ (no_breaks_here cs c.args.least (context_of c.args.context) _ c.in-None.ensures.none)
