use Rattle.std.proofs.Common.{cond, sym, ◌∙◌, ap}
use Rattle.std.specs.Prelude.{Some, None}
use Rattle.review_paths.proofs.KeyLaws.{none_content, scalar_content, other_content}
use Rattle.review_paths.proofs.fit.content_of.Goals as goal

pub returns-in_default : goal.returns-in_default
returns-in_default c = none_content c.args.forests.now c.args.key.0 c.in_default.ensures

pub returns-then-is_str : goal.returns-then-is_str
returns-then-is_str c =
    let x = c.in-Scalar.content.now in
    ap (λ b. cond b (Some x) None) (sym c.if-is_str.true ∙ c.is_str.ensures) ∙ scalar_content c.args.forests.now c.args.key.0 c.laws.ensures c.in-Some.shown c.in-Some.ensures c.in-Scalar.content c.in-Scalar.is

pub returns-else-is_str : goal.returns-else-is_str
returns-else-is_str c =
    let x = c.in-Scalar.content.now in
    ap (λ b. cond b (Some x) None) (sym c.if-is_str.false ∙ c.is_str.ensures) ∙ scalar_content c.args.forests.now c.args.key.0 c.laws.ensures c.in-Some.shown c.in-Some.ensures c.in-Scalar.content c.in-Scalar.is

pub returns-in_default-inside : goal.returns-in_default-inside
returns-in_default-inside c = other_content c.args.forests.now c.args.key.0 c.laws.ensures c.in-Some.shown c.in-Some.ensures c.in_default-inside.not-Scalar
