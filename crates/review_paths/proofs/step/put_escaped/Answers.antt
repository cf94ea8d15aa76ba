use Rattle.std.proofs.lemmas.List.{nil_from_length}
use Rattle.review_paths.proofs.PasteLaws.{escaped_next, escaped_all}
use Rattle.review_paths.proofs.step.put_escaped.Goals as goal

pub chars-preserved : goal.chars-preserved
chars-preserved c = escaped_next c.args.is_filter _ _ c.in-Some.c _ _ _ c.in-Some.ensures.steps.0 c.chars.invariant c.in_ok-put_char.ensures.ok

pub returns : goal.returns
returns c = record { ok = (escaped_all c.args.is_filter _ _ _ (nil_from_length _ c.in-None.ensures.steps.0.0) c.chars.invariant) }
