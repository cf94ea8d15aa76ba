use Rattle.yaml_json.proofs.Rules.{none_told}
use Rattle.yaml_json.proofs.Collections.{name_read}
use Rattle.yaml_json.proofs.OneEnd.{named_only, named_none}
use Rattle.yaml_json.proofs.text.after_name.Goals as goal

pub returns-clause-some : goal.returns-clause-some
returns-clause-some c = name_read _ _ _ _ c.in_ok-colon.ensures.some c.after_white.ensures.white c.in_ok-rest.ensures.some

pub returns-clause-only : goal.returns-clause-only
returns-clause-only c = named_only _ _ _ _ c.in_ok-colon.ensures.only c.after_white.ensures.white c.after_white.ensures.all c.in_ok-rest.ensures.some

pub returns-in_err-rest-clause-none : goal.returns-in_err-rest-clause-none
returns-in_err-rest-clause-none c =
    none_told _ _ c.from_residual-in_err-rest.ensures (named_none _ _ _ c.in_ok-colon.ensures.only c.after_white.ensures.white c.after_white.ensures.all c.in_err-rest.ensures.none)
