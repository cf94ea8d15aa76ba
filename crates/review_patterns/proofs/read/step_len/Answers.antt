use Rattle.std.proofs.Common.{Some}
use Rattle.review_patterns.proofs.PatternLaws.{step-longer, step-whole, one-longer}
use Rattle.review_patterns.proofs.read.step_len.Goals as goal

pub returns-clause-step : goal.returns-clause-step
returns-clause-step c = step-longer c.args.text.now c.in_ok-first.first.now c.in_ok-first.rest.now c.in_ok-rest_len.field-0 c.in_ok-first.ensures.cases.0 c.in_ok-rest_len.ensures.step

pub returns-clause-whole : goal.returns-clause-whole
returns-clause-whole c = λ step more k a t.
    one-longer c.in_ok-rest_len.field-0 step (step-whole c.args.text.now c.in_ok-first.first.now c.in_ok-first.rest.now step more (Some c.in_ok-rest_len.field-0) c.in_ok-first.ensures.cases.0 c.in_ok-rest_len.ensures.whole k a t)
