use Rattle.std.proofs.Common.{arith, ◌∙◌}
use Rattle.std.proofs.lemmas.Bool.Decides.{nat_tests}
use Rattle.yaml_core.specs.State.{meaning}
use Rattle.yaml_core.proofs.StateLemmas.{point_nan, point_capital_nan, point_other}
use Rattle.yaml_core.proofs.form.after_point.Goals as goal

pub returns-in-110 : goal.returns-in-110
unfolding meaning
returns-in-110 c = λ rest. point_nan c.args.byte rest c.in-110.is

pub returns-in-78 : goal.returns-in-78
unfolding meaning
returns-in-78 c = λ rest. point_capital_nan c.args.byte rest c.in-78.is

pub returns-in_default : goal.returns-in_default
unfolding meaning
returns-in_default c = λ rest. point_other c.args.byte rest (grind (arith, nat_tests)) (grind (arith, nat_tests)) ∙ c.after_signed_point.ensures rest
