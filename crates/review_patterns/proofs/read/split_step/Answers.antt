use Rattle.std.proofs.Common.{◌∙◌}
use Rattle.review_patterns.proofs.PatternLaws.{cut-whole, same-len}
use Rattle.review_patterns.proofs.read.split_step.Goals as goal

pub returns-clause-whole : goal.returns-clause-whole
returns-clause-whole c = λ step more k a t.
    cut-whole c.args.text.now c.in_ok-step_len.field-0 c.split_at_checked.result step more c.split_at_checked.ensures.variant c.split_at_checked.ensures.back (same-len c.in_ok-step_len.field-0 step (c.in_ok-step_len.ensures.whole step more k a (c.as_bytes.ensures.value ∙ t))) a t
