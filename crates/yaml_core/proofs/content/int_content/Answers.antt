use Rattle.std.proofs.Common.{sym, ◌∙◌, pos, drop}
use Rattle.std.specs.Cow.{cow_str_bytes}
use Rattle.yaml_definitions.specs.model.Tag.{int_tag}
use Rattle.yaml_definitions.specs.model.Core.{int_value, number_in}
use Rattle.yaml_core.specs.Values.{decimal_int}
use Rattle.yaml_core.specs.declared.form.Form.TheVariants as forms
use Rattle.yaml_core.proofs.KindLemmas.{has, taken_resolved, int_decimal, int_octal, int_hexadecimal, int_none}
use Rattle.yaml_core.proofs.content.int_content.Goals as goal

pub decimal-requires : goal.decimal-requires
decimal-requires c = (has forms.Decimal c.args.text.now (sym c.in-Decimal.is ∙ c.requires)).1

pub returns-in-Decimal : goal.returns-in-Decimal
returns-in-Decimal c = taken_resolved cow_str_bytes int_tag _ (int_value (decimal_int c.args.text.now)) c.decimal.result (int_decimal c.args.form c.args.text.now c.requires c.in-Decimal.is) c.decimal.ensures

pub prefixed-requires-clause-digits : goal.prefixed-requires-clause-digits
prefixed-requires-clause-digits c = (has forms.Octal c.args.text.now (sym c.in-Octal.is ∙ c.requires)).1

pub prefixed-requires-in-Hexadecimal-clause-digits : goal.prefixed-requires-in-Hexadecimal-clause-digits
prefixed-requires-in-Hexadecimal-clause-digits c = (has forms.Hexadecimal c.args.text.now (sym c.in-Hexadecimal.is ∙ c.requires)).1

pub returns-in-Octal : goal.returns-in-Octal
returns-in-Octal c = taken_resolved cow_str_bytes int_tag _ (int_value (pos (number_in 8 (drop 2 c.args.text.now)))) c.prefixed.result (int_octal c.args.form c.args.text.now c.requires c.in-Octal.is) c.prefixed.ensures

pub returns-in-Hexadecimal : goal.returns-in-Hexadecimal
returns-in-Hexadecimal c = taken_resolved cow_str_bytes int_tag _ (int_value (pos (number_in 16 (drop 2 c.args.text.now)))) c.prefixed-in-Hexadecimal.result (int_hexadecimal c.args.form c.args.text.now c.requires c.in-Hexadecimal.is) c.prefixed-in-Hexadecimal.ensures

pub returns-in_default : goal.returns-in_default
returns-in_default c = int_none c.args.form c.args.text.now c.requires c.in_default.not-Decimal c.in_default.not-Octal c.in_default.not-Hexadecimal
