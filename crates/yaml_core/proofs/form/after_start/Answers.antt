use Rattle.std.proofs.Common.{arith}
use Rattle.std.proofs.lemmas.Bool.Decides.{nat_tests}
use Rattle.yaml_core.specs.State.{meaning}
use Rattle.yaml_core.proofs.StartLemmas.{start_tilde, start_null, start_capital_null, start_true, start_capital_true, start_false, start_capital_false, start_other, start_sign, start_digit, start_zero, start_point}
use Rattle.yaml_core.proofs.form.after_start.Goals as goal

pub returns-in-43 : goal.returns-in-43
unfolding meaning
returns-in-43 c = λ rest. start_sign c.args.byte rest (record { tilde = grind (arith, nat_tests); null = grind (arith, nat_tests); capital_null = grind (arith, nat_tests); yes = grind (arith, nat_tests); capital_yes = grind (arith, nat_tests); nay = grind (arith, nat_tests); capital_nay = grind (arith, nat_tests) }) (grind (arith, nat_tests)) (grind (arith, nat_tests)) (grind (arith, nat_tests))

pub returns-in-48 : goal.returns-in-48
unfolding meaning
returns-in-48 c = λ rest. start_zero c.args.byte rest c.in-48.is

pub returns-in-49-to-57 : goal.returns-in-49-to-57
unfolding meaning
returns-in-49-to-57 c = λ rest. start_digit c.args.byte rest (record { tilde = grind (arith, nat_tests); null = grind (arith, nat_tests); capital_null = grind (arith, nat_tests); yes = grind (arith, nat_tests); capital_yes = grind (arith, nat_tests); nay = grind (arith, nat_tests); capital_nay = grind (arith, nat_tests) }) (grind (arith, nat_tests)) (grind (arith, nat_tests)) (grind (arith, nat_tests)) (grind (arith, nat_tests)) (grind (arith, nat_tests))

pub returns-in-46 : goal.returns-in-46
unfolding meaning
returns-in-46 c = λ rest. start_point c.args.byte rest c.in-46.is

pub returns-in-126 : goal.returns-in-126
unfolding meaning
returns-in-126 c = λ rest. start_tilde c.args.byte rest c.in-126.is

pub returns-in-110 : goal.returns-in-110
unfolding meaning
returns-in-110 c = λ rest. start_null c.args.byte rest c.in-110.is

pub returns-in-78 : goal.returns-in-78
unfolding meaning
returns-in-78 c = λ rest. start_capital_null c.args.byte rest c.in-78.is

pub returns-in-116 : goal.returns-in-116
unfolding meaning
returns-in-116 c = λ rest. start_true c.args.byte rest c.in-116.is

pub returns-in-84 : goal.returns-in-84
unfolding meaning
returns-in-84 c = λ rest. start_capital_true c.args.byte rest c.in-84.is

pub returns-in-102 : goal.returns-in-102
unfolding meaning
returns-in-102 c = λ rest. start_false c.args.byte rest c.in-102.is

pub returns-in-70 : goal.returns-in-70
unfolding meaning
returns-in-70 c = λ rest. start_capital_false c.args.byte rest c.in-70.is

pub returns-in_default : goal.returns-in_default
unfolding meaning
returns-in_default c = λ rest. start_other c.args.byte rest (record { tilde = grind (arith, nat_tests); null = grind (arith, nat_tests); capital_null = grind (arith, nat_tests); yes = grind (arith, nat_tests); capital_yes = grind (arith, nat_tests); nay = grind (arith, nat_tests); capital_nay = grind (arith, nat_tests) }) (grind (arith, nat_tests)) (grind (arith, nat_tests)) (grind (arith, nat_tests)) (grind (arith, nat_tests))
