use Rattle.std.specs.Cow.{cow_str_bytes}
use Rattle.yaml_definitions.specs.model.Tag.{float_tag}
use Rattle.yaml_definitions.specs.model.Core.{decimal_of}
use Rattle.yaml_core.proofs.KindLemmas.{decimal_resolved, float_decimal, float_some, float_infinity, float_nan, float_none}
use Rattle.yaml_core.proofs.content.float_content.Goals as goal

pub decimal-requires : goal.decimal-requires
decimal-requires c = float_some c.args.form c.args.text.now c.requires c.in-Decimal.is

pub returns-in-Decimal : goal.returns-in-Decimal
returns-in-Decimal c = decimal_resolved cow_str_bytes float_tag _ (decimal_of c.args.text.now) c.decimal.result (float_decimal c.args.form c.args.text.now c.requires c.in-Decimal.is) c.decimal.ensures

pub returns-in-Infinity : goal.returns-in-Infinity
returns-in-Infinity c = float_infinity c.args.form c.args.text.now _ c.requires c.in-Infinity.is c.infinity.ensures

pub returns-in-NotANumber : goal.returns-in-NotANumber
returns-in-NotANumber c = float_nan c.args.form c.args.text.now c.requires c.in-NotANumber.is

pub returns-in_default : goal.returns-in_default
returns-in_default c = float_none c.args.form c.args.text.now c.requires c.in_default.not-Decimal c.in_default.not-Float c.in_default.not-Infinity c.in_default.not-NotANumber
