use Rattle.std.proofs.Common.{◌∷◌, ap}
use Rattle.yaml_core.specs.State.{meaning}
use Rattle.yaml_core.proofs.form.State.step.Goals as goal

pub returns-in-Other : goal.returns-in-Other
unfolding meaning
returns-in-Other c = λ rest. ap (λ s. meaning s (c.args.byte ∷ rest)) c.in-Other.is
