use Rattle.std.proofs.Common.{arith}
use Rattle.std.proofs.lemmas.Bool.Decides.{nat_tests}
use Rattle.yaml_core.specs.State.{meaning}
use Rattle.yaml_core.proofs.StateLemmas.{point_infinity, point_capital_infinity, point_digit, point_none}
use Rattle.yaml_core.proofs.form.after_signed_point.Goals as goal

pub returns-in-105 : goal.returns-in-105
unfolding meaning
returns-in-105 c = λ rest. point_infinity c.args.byte rest c.in-105.is

pub returns-in-73 : goal.returns-in-73
unfolding meaning
returns-in-73 c = λ rest. point_capital_infinity c.args.byte rest c.in-73.is

pub returns-in-48-to-57 : goal.returns-in-48-to-57
unfolding meaning
returns-in-48-to-57 c = λ rest. point_digit c.args.byte rest (grind (arith, nat_tests)) (grind (arith, nat_tests)) (grind (arith, nat_tests)) (grind (arith, nat_tests))

pub returns-in_default : goal.returns-in_default
unfolding meaning
returns-in_default c = λ rest. point_none c.args.byte rest (grind (arith, nat_tests)) (grind (arith, nat_tests)) (grind (arith, nat_tests))
