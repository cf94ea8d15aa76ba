use Rattle.std.proofs.Common.{◌≡◌, map, take}
use Rattle.review_merge.specs.Lines.{shown_step}
use Rattle.review_merge.proofs.lines.shown_steps.Given as goal

abbrev pub invariant-steps : goal.invariant-steps
invariant-steps l = l.list.items ≡ map shown_step (take l.step-index l.path)
