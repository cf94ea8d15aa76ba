use Rattle.std.proofs.Common.{refl}
use Rattle.review_compare.proofs.JsonLaws.{alike_tells}
use Rattle.review_compare.proofs.json.diff_json.Goals as goal

pub returns-in-Ok-clause-accepts : goal.returns-in-Ok-clause-accepts
returns-in-Ok-clause-accepts c = λ f g a b m n. alike_tells c.args.left.now c.args.right.now c.in-Ok.told.same (c.in-Ok.ensures.same refl) f g m n
