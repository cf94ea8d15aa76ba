use Rattle.std.proofs.Common.{◌≡◌, ◌++◌, map}
use Rattle.std.specs.List.{flat_map}
use Rattle.std.specs.String.{string_bytes}
use Rattle.yaml_diff.specs.Lines.{step_of}
use Rattle.review_paths.specs.Pasted.{pasted_step}
use Rattle.review_paths.proofs.step.put_steps.Given as goal

abbrev pub invariant-steps : goal.invariant-steps
invariant-steps l = string_bytes l.out ≡ string_bytes l.fn.out ++ flat_map (λ s. pasted_step l.is_filter l.is_left (step_of l.forests s)) (map (λ s. s.now) l.yielded)
