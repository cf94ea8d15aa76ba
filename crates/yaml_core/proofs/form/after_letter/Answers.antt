use Rattle.std.proofs.Common.{ap}
use Rattle.yaml_core.specs.State.{meaning, by_test}
use Rattle.yaml_core.proofs.form.after_letter.Goals as goal

pub returns-in-Some : goal.returns-in-Some
unfolding meaning
returns-in-Some c = λ rest. ap (λ b. by_test b c.args.form) (c.in-Some.ensures rest)

pub returns-in-None : goal.returns-in-None
unfolding meaning
returns-in-None c = λ rest. ap (λ b. by_test b c.args.form) (c.in-None.ensures rest)
