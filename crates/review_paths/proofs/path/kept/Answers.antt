use Rattle.std.proofs.Common.{◌≡◌, ◌++◌, ◌∷◌, [], rules}
use Rattle.review_paths.proofs.PasteLaws.{kept_all, kept_rest}
use Rattle.review_paths.proofs.path.kept.Goals as goal

pub returns-then-numbered : goal.returns-then-numbered
returns-then-numbered c = λ g. kept_all g c.args.path.now c.args.numbered c.if-numbered.true

pub returns-in-Some : goal.returns-in-Some
returns-in-Some c =
    let split : c.args.path.now ≡ c.in-Some.steps.now ++ (c.in-Some.field-0-0.now ∷ []) = search rules in
    λ g. kept_rest g c.args.path.now c.in-Some.steps.now c.in-Some.field-0-0.now c.args.numbered c.if-numbered.false split
