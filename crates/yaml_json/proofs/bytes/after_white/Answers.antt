use Rattle.yaml_json.specs.Json.{no_white}
use Rattle.yaml_json.proofs.Rules.{took_white}
use Rattle.yaml_json.proofs.bytes.after_white.Goals as goal

pub white-init : goal.white-init
white-init c = no_white

pub white-preserved : goal.white-preserved
white-preserved c = took_white _ _ _ c.white.invariant c.in-Some.ensures.some
