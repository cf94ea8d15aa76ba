use Rattle.std.proofs.Common.{◌≡◌, ◌++◌, drop, map}
use Rattle.serde_json.specs.View.{view}
use Rattle.review_formats.proofs.SarifLaws.{of_rule}
use Rattle.review_formats.proofs.sarif.rule_values.Given as goal

abbrev pub invariant-rules : goal.invariant-rules
invariant-rules l = map view l.values.items ++ map of_rule (drop l.rule-index l.rules) ≡ map of_rule l.rules
