use Rattle.std.proofs.Common.{sym, ◌∙◌}
use Rattle.review_text.proofs.KeyLaws.{none_bracketed, scalar_named, scalar_bracketed, other_bracketed}
use Rattle.review_text.proofs.text.name_of.Goals as goal

pub returns-in_default : goal.returns-in_default
returns-in_default c = none_bracketed c.args.forests.now c.args.key.0 c.in_default.ensures

pub returns-then-is_named : goal.returns-then-is_named
returns-then-is_named c = scalar_named c.args.forests.now c.args.key.0 c.laws.ensures c.in-Some.shown c.in-Some.ensures c.in-Scalar.content c.in-Scalar.is (sym c.is_named.ensures ∙ c.if-is_named.true)

pub returns-else-is_named : goal.returns-else-is_named
returns-else-is_named c = scalar_bracketed c.args.forests.now c.args.key.0 c.laws.ensures c.in-Some.shown c.in-Some.ensures c.in-Scalar.content c.in-Scalar.is (sym c.is_named.ensures ∙ c.if-is_named.false)

pub returns-in_default-inside : goal.returns-in_default-inside
returns-in_default-inside c = other_bracketed c.args.forests.now c.args.key.0 c.laws.ensures c.in-Some.shown c.in-Some.ensures c.in_default-inside.not-Scalar
