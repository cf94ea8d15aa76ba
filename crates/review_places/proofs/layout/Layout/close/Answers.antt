use Rattle.std.proofs.Common.{◌++◌, ◌∷◌, [], ◌∙◌, ap, subst, drop}
use Rattle.review_places.specs.Layout.{IsWhole}
use Rattle.review_places.proofs.LayoutLaws.{closed-stands}
use Rattle.review_places.proofs.layout.Layout.close.Goals as goal

pub returns-clause-stands : goal.returns-clause-stands
returns-clause-stands c =
    let last = c.in-Some.last in
    let w = subst (λ z. IsWhole last.0 z c.args.self.now c.whole.new.self) (c.behind.ensures ∙ ap (drop last.1) c.deref.ensures.value) c.in_ok-whole.ensures.ok in
    λ s at g t. closed-stands s at c.args.self.now c.whole.new.self c.args.around.now _ last g t c.in-Some.ensures.items w (c.in_ok-push.ensures.items ∙ ap (λ z. z ++ (last.0 ∷ [])) c.truncate.ensures.items)
