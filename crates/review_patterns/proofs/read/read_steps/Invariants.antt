use Rattle.std.proofs.Common.{length, map}
use denote.Text.{Utf8}
use denote.Shadow.{shadow}
use Rattle.review_patterns.proofs.PatternLaws.{ReadTo, OnlyFrom}
use Rattle.review_patterns.proofs.read.read_steps.Given as goal

-- says that each `&str` the loop changes is text
abbrev pub invariant-steps : goal.invariant-steps
invariant-steps l = record { read : ReadTo l.fn.document l.fn.text (map (λ step. step.now) l.steps.items) l.rest; only : OnlyFrom l.fn.text l.rest; utf8 : shadow (Utf8 l.rest) }

abbrev pub decreases-steps : goal.decreases-steps
decreases-steps l = length l.rest
