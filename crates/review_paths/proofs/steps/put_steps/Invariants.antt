use Rattle.std.proofs.Common.{◌≡◌, ◌++◌, map}
use Rattle.std.specs.List.{flat_map}
use Rattle.std.specs.String.{string_bytes}
use Rattle.yaml_diff.specs.Lines.{step_of}
use Rattle.review_paths.specs.Json.{next_json}
use Rattle.review_paths.proofs.steps.put_steps.Given as goal

abbrev pub invariant-steps : goal.invariant-steps
invariant-steps l = string_bytes l.out ≡ string_bytes l.initial.out ++ flat_map (λ s. next_json (step_of l.forests s)) (map (λ s. s.now) l.yielded)
