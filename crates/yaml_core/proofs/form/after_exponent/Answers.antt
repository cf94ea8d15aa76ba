use Rattle.std.proofs.Common.{arith, ◌∙◌}
use Rattle.std.proofs.lemmas.Bool.Decides.{nat_tests}
use Rattle.yaml_core.specs.State.{meaning}
use Rattle.yaml_core.proofs.StateLemmas.{exponent_sign, exponent_digits}
use Rattle.yaml_core.proofs.form.after_exponent.Goals as goal

pub returns-in-43 : goal.returns-in-43
unfolding meaning
returns-in-43 c = λ rest. exponent_sign c.args.byte rest (grind (arith, nat_tests))

pub returns-in_default : goal.returns-in_default
unfolding meaning
returns-in_default c = λ rest. exponent_digits c.args.byte rest (grind (arith, nat_tests)) ∙ c.after_exponent_sign.ensures.sign rest
