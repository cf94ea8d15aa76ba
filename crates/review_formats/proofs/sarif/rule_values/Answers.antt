use Rattle.std.proofs.Common.{arith, ◌∙◌}
use Rattle.serde_json.specs.View.{view}
use Rattle.review_formats.proofs.SarifLaws.{of_rule, rules_seen, push_all}
use Rattle.review_formats.proofs.sarif.rule_values.Goals as goal

pub returns : goal.returns
returns c = record { ok = (push_all of_rule view c.args.rules.now c.rules.rule-index _ _ (omega (arith, c.rules-test.false)) c.rules.invariant ∙ rules_seen c.args.rules.now) }
