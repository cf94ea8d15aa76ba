use Rattle.std.proofs.Common.{subst, sym}
use Rattle.yaml_text.specs.Source.{text_of}
use Rattle.yaml_text.specs.Lines.{line_brk}
use Rattle.yaml_scalar.proofs.double.escaped_break.Goals as goal

pub returns-in-None-line_break-clause-none : goal.returns-in-None-line_break-clause-none
returns-in-None-line_break-clause-none c = λ h j b.
    c.in-None-line_break.ensures.none j (subst (λ x. line_brk (text_of c.args.source.now) x j) (sym c.in-Some.ensures.some.next) b)
