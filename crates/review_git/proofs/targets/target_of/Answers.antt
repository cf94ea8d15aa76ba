use Rattle.std.proofs.Common.{inl, ap, ◌∙◌, ◌==◌, subst}
use Rattle.std.specs.List.{before_first}
use Rattle.review_git.specs.Files.{IsBehind}
use Rattle.review_git.proofs.targets.target_of.Goals as goal

pub returns-in-Ok : goal.returns-in-Ok
returns-in-Ok c = inl (c.in-Ok.ensures.cases.1, subst (λ z. IsBehind z c.behind_commit.result.now) (c.line_of.ensures ∙ ap (before_first (λ b. b == 10)) c.in-Ok.ensures.cases.0) c.behind_commit.ensures)
