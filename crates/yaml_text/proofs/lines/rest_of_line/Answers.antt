use Rattle.yaml_text.specs.Source.{text_of}
use Rattle.yaml_text.proofs.LineRuns.{nb_uncut}
use Rattle.yaml_text.proofs.lines.rest_of_line.Goals as goal

pub end_line-requires : goal.end_line-requires
end_line-requires c =
    let s = c.skip_line-here.ensures in
    record { border = s.border; uncut = nb_uncut (text_of c.args.source.now) _ _ s.chars c.requires.uncut }

pub returns-in-None-clause-end : goal.returns-in-None-clause-end
returns-in-None-clause-end c = absurd (c.skip_line-here.ensures.furthest c.in-None.ensures.none)
