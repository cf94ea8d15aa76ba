use Rattle.std.proofs.Common.{sym, ◌∙◌}
use Rattle.yaml_store_rank.specs.Forests.{tree}
use Rattle.review_paths.proofs.StepLaws.{told, told_by_text, other_told}
use Rattle.review_paths.proofs.steps.short_content.Goals as goal

pub returns-in_default : goal.returns-in_default
returns-in_default c = other_told (tree c.args.forests.now c.args.key.0) c.in_default.ensures

pub returns-then-is_short : goal.returns-then-is_short
returns-then-is_short c = told (tree c.args.forests.now c.args.key.0) _ c.in-Some.ensures (sym c.is_short.ensures ∙ c.if-is_short.true)

pub returns-else-is_short : goal.returns-else-is_short
returns-else-is_short c = told_by_text (tree c.args.forests.now c.args.key.0) _ c.in-Some.ensures (sym c.is_short.ensures ∙ c.if-is_short.false)
