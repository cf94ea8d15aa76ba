use Rattle.std.proofs.Common.{arith}
use Rattle.std.proofs.lemmas.Bool.Decides.{nat_tests}
use Rattle.yaml_core.specs.State.{meaning}
use Rattle.yaml_core.specs.declared.form.Form.TheVariants as forms
use Rattle.yaml_core.proofs.StateLemmas.{base_digit, base_other}
use Rattle.yaml_core.proofs.form.after_exponent_sign.Goals as goal

pub returns-in-48-to-57-clause-sign : goal.returns-in-48-to-57-clause-sign
unfolding meaning
returns-in-48-to-57-clause-sign c = λ rest. base_digit 10 c.args.byte rest forms.Float (grind (arith, nat_tests))

pub returns-in-48-to-57-clause-digits : goal.returns-in-48-to-57-clause-digits
unfolding meaning
returns-in-48-to-57-clause-digits c = λ rest. base_digit 10 c.args.byte rest forms.Float (grind (arith, nat_tests))

pub returns-in_default-clause-sign : goal.returns-in_default-clause-sign
unfolding meaning
returns-in_default-clause-sign c = λ rest. base_other 10 c.args.byte rest forms.Float (grind (arith, nat_tests))

pub returns-in_default-clause-digits : goal.returns-in_default-clause-digits
unfolding meaning
returns-in_default-clause-digits c = λ rest. base_other 10 c.args.byte rest forms.Float (grind (arith, nat_tests))
