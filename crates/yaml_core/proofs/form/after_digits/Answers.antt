use Rattle.std.proofs.Common.{arith}
use Rattle.std.proofs.lemmas.Bool.Decides.{nat_tests}
use Rattle.yaml_core.specs.State.{meaning}
use Rattle.yaml_core.proofs.StateLemmas.{digits_digit, digits_point, digits_exponent, digits_other}
use Rattle.yaml_core.proofs.form.after_digits.Goals as goal

pub returns-in-46 : goal.returns-in-46
unfolding meaning
returns-in-46 c = λ rest. digits_point c.args.byte rest c.in-46.is

pub returns-in-101 : goal.returns-in-101
unfolding meaning
returns-in-101 c = λ rest. digits_exponent c.args.byte rest (grind (arith, nat_tests)) (grind (arith, nat_tests))

pub returns-in-48-to-57 : goal.returns-in-48-to-57
unfolding meaning
returns-in-48-to-57 c = λ rest. digits_digit c.args.byte rest (grind (arith, nat_tests)) (grind (arith, nat_tests)) (grind (arith, nat_tests))

pub returns-in_default : goal.returns-in_default
unfolding meaning
returns-in_default c = λ rest. digits_other c.args.byte rest (grind (arith, nat_tests)) (grind (arith, nat_tests)) (grind (arith, nat_tests))
