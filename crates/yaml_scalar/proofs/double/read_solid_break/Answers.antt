use Rattle.yaml_text.specs.EventModel.{context_of}
use Rattle.yaml_text.specs.Source.{text_of}
use Rattle.yaml_scalar.proofs.DoubleLemmas.{no_solid_second}
use Rattle.yaml_scalar.proofs.double.read_solid_break.Goals as goal

pub returns-in-Some-clause-none : goal.returns-in-Some-clause-none
returns-in-Some-clause-none c =
    let f = c.in-Ok.ensures in
    let s = c.in-Some.ensures in
    no_solid_second (text_of c.args.source.now) c.args.least (context_of c.args.context) _ _ _ _ f.breaks f.text s.mark s.next s.line
