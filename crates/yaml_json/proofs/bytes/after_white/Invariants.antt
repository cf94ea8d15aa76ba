use Rattle.std.proofs.Common.{length}
use Rattle.yaml_json.specs.Json.{Ws}
use Rattle.yaml_json.proofs.bytes.after_white.Given as goal

abbrev pub invariant-white : goal.invariant-white
invariant-white l = Ws l.fn.bytes l.rest

abbrev pub decreases-white : goal.decreases-white
decreases-white l = length l.rest
