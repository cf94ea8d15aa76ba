use Rattle.yaml_text.specs.Source.{text_of}
use Rattle.yaml_text.proofs.LineRuns.{to_brk, brk_line_end, end_line_end, nb_here}
use Rattle.yaml_text.proofs.lines.end_line.Goals as goal

pub returns-in-Some-clause-some : goal.returns-in-Some-clause-some
returns-in-Some-clause-some c =
    brk_line_end (text_of c.args.source.now) _ _ (to_brk (text_of c.args.source.now) _ _ c.requires.uncut c.in-Some.ensures.some)

pub returns-in-None-next-clause-some : goal.returns-in-None-next-clause-some
returns-in-None-next-clause-some c = end_line_end (text_of c.args.source.now) _ c.in-None-next.ensures.end

pub returns-in-Some-next-clause-none : goal.returns-in-Some-next-clause-none
returns-in-Some-next-clause-none c = nb_here (text_of c.args.source.now) _ _ c.in-Some-next.ensures.some.is c.in-None.ensures.none
