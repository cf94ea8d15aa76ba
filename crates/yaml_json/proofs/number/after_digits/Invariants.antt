use Rattle.std.proofs.Common.{length}
use Rattle.yaml_json.specs.Json.{Digits}
use Rattle.yaml_json.proofs.number.after_digits.Given as goal

abbrev pub invariant-digits : goal.invariant-digits
invariant-digits l = Digits l.fn.bytes l.rest

abbrev pub decreases-digits : goal.decreases-digits
decreases-digits l = length l.rest
