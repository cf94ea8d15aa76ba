use Rattle.std.proofs.Common.{arith, ap, true}
use Rattle.std.proofs.lemmas.Bool.Decides.{nat_tests}
use Rattle.yaml_core.specs.State.{meaning, by_test}
use Rattle.yaml_core.specs.declared.form.Form.TheVariants as forms
use Rattle.yaml_core.proofs.StateLemmas.{fraction_digit, fraction_exponent, fraction_other}
use Rattle.yaml_core.proofs.form.after_fraction.Goals as goal

pub returns-in-101 : goal.returns-in-101
unfolding meaning
returns-in-101 c = λ rest. ap (λ t. by_test t forms.Float) (fraction_exponent c.args.byte rest (grind (arith, nat_tests)))

pub returns-in-48-to-57 : goal.returns-in-48-to-57
unfolding meaning
returns-in-48-to-57 c = λ rest. ap (λ t. by_test t forms.Float) (fraction_digit true c.args.byte rest (grind (arith, nat_tests)) (grind (arith, nat_tests)))

pub returns-in_default : goal.returns-in_default
unfolding meaning
returns-in_default c = λ rest. ap (λ t. by_test t forms.Float) (fraction_other true c.args.byte rest (grind (arith, nat_tests)) (grind (arith, nat_tests)))
