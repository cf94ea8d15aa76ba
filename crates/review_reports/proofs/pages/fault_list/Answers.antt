use Rattle.std.proofs.Common.{[], ◌∷◌, ◌++◌, ◌∙◌, ap}
use Rattle.review_reports.proofs.pages.fault_list.Goals as goal

pub returns-clause-ok : goal.returns-clause-ok
returns-clause-ok c =
    let one = c.in_ok-fault_found.field-0 in
    (one, c.in_ok-push.ensures.items ∙ ap (λ z. z ++ (one ∷ [])) c.new-list.ensures.items, c.in_ok-fault_found.ensures.ok)
