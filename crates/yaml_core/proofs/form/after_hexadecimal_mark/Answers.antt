use Rattle.std.proofs.Common.{arith}
use Rattle.std.proofs.lemmas.Bool.Decides.{nat_tests}
use Rattle.yaml_core.specs.State.{meaning}
use Rattle.yaml_core.specs.declared.form.Form.TheVariants as forms
use Rattle.yaml_core.proofs.StateLemmas.{base_digit, base_other}
use Rattle.yaml_core.proofs.form.after_hexadecimal_mark.Goals as goal

pub returns-in-48-to-57-clause-mark : goal.returns-in-48-to-57-clause-mark
unfolding meaning
returns-in-48-to-57-clause-mark c = λ rest. base_digit 16 c.args.byte rest forms.Hexadecimal (grind (arith, nat_tests))

pub returns-in-48-to-57-clause-digits : goal.returns-in-48-to-57-clause-digits
unfolding meaning
returns-in-48-to-57-clause-digits c = λ rest. base_digit 16 c.args.byte rest forms.Hexadecimal (grind (arith, nat_tests))

pub returns-in_default-clause-mark : goal.returns-in_default-clause-mark
unfolding meaning
returns-in_default-clause-mark c = λ rest. base_other 16 c.args.byte rest forms.Hexadecimal (grind (arith, nat_tests))

pub returns-in_default-clause-digits : goal.returns-in_default-clause-digits
unfolding meaning
returns-in_default-clause-digits c = λ rest. base_other 16 c.args.byte rest forms.Hexadecimal (grind (arith, nat_tests))
