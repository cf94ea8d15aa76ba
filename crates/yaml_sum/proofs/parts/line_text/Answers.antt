use Rattle.std.proofs.Common.{◌==◌, ap}
use Rattle.std.proofs.lemmas.Bool.{ne_eqb}
use Rattle.yaml_sum.proofs.PartLaws.{text_is, text_whole}
use Rattle.yaml_sum.proofs.parts.line_text.Goals as goal

pub returns-then-last-eq13 : goal.returns-then-last-eq13
returns-then-last-eq13 c = text_is c.args.line.now c.in-Some.rest.now c.in-Some.last.now c.in-Some.ensures.cases.0 (ap (λ z. z == 13) c.if-last-eq13.true)

pub returns-else-last-eq13 : goal.returns-else-last-eq13
returns-else-last-eq13 c = text_whole c.args.line.now c.in-Some.rest.now c.in-Some.last.now c.in-Some.ensures.cases.0 (ne_eqb _ 13 c.if-last-eq13.false)
