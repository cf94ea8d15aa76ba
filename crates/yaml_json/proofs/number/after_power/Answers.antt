use Rattle.yaml_json.specs.Json.{exp}
use Rattle.yaml_json.proofs.Rules.{took_signed, none_told}
use Rattle.yaml_json.proofs.OneReading.{power_signed, power_plain, power_plain_none}
use Rattle.yaml_json.proofs.number.after_power.Goals as goal

pub returns-then-is_sign-clause-some : goal.returns-then-is_sign-clause-some
returns-then-is_sign-clause-some c = took_signed _ _ _ _ _ _ c.requires c.in_ok-c.ensures.some c.is_sign.ensures c.if-is_sign.true c.in_ok-rest.ensures.some

pub returns-then-is_sign-clause-only : goal.returns-then-is_sign-clause-only
returns-then-is_sign-clause-only c = power_signed _ _ _ _ _ _ c.requires c.in_ok-c.ensures.some c.is_sign.ensures c.if-is_sign.true c.in_ok-rest.ensures.only

pub returns-in_err-rest-2-clause-none : goal.returns-in_err-rest-2-clause-none
returns-in_err-rest-2-clause-none c =
    none_told _ _ c.from_residual-in_err-rest-2.ensures (power_plain_none _ _ _ _ _ c.requires c.in_ok-c.ensures.some c.is_sign.ensures c.if-is_sign.false c.in_err-rest-2.ensures.none)

pub returns-clause-some : goal.returns-clause-some
returns-clause-some c = exp c.requires c.in_ok-rest-2.ensures.some

pub returns-clause-only : goal.returns-clause-only
returns-clause-only c = power_plain _ _ _ _ _ _ c.requires c.in_ok-c.ensures.some c.is_sign.ensures c.if-is_sign.false c.in_ok-rest-2.ensures.only
