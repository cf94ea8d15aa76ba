use Rattle.std.proofs.Common.{arith, ◌∙◌}
use Rattle.std.proofs.lemmas.Bool.Decides.{nat_tests}
use Rattle.yaml_core.specs.State.{meaning}
use Rattle.yaml_core.proofs.StateLemmas.{zero_octal, zero_hexadecimal, zero_digits}
use Rattle.yaml_core.proofs.form.after_zero.Goals as goal

pub returns-in-111 : goal.returns-in-111
unfolding meaning
returns-in-111 c = λ rest. zero_octal c.args.byte rest c.in-111.is

pub returns-in-120 : goal.returns-in-120
unfolding meaning
returns-in-120 c = λ rest. zero_hexadecimal c.args.byte rest c.in-120.is

pub returns-in_default : goal.returns-in_default
unfolding meaning
returns-in_default c = λ rest. zero_digits c.args.byte rest (grind (arith, nat_tests)) (grind (arith, nat_tests)) ∙ c.after_digits.ensures rest
