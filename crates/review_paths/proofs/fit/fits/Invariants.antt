use Rattle.std.proofs.Common.{◌≡◌, map}
use Rattle.std.specs.List.{list_all}
use Rattle.yaml_diff.specs.Lines.{step_of}
use Rattle.review_paths.specs.Pasted.{fits_step}
use Rattle.review_paths.proofs.fit.fits.Given as goal

abbrev pub invariant-steps : goal.invariant-steps
invariant-steps l = l.all ≡ list_all (λ s. fits_step (step_of l.forests s)) (map (λ s. s.now) l.yielded)
