use Rattle.std.proofs.Common.{◌≡◌, ◌++◌, ◌∷◌, [], length, refl, ◌∙◌, ap, Some, arith}
use Rattle.review_places.proofs.LayoutLaws.{scalar-stands, alias-stands, opens-stands, other-stands}
use Rattle.review_places.proofs.layout.Layout.take.Goals as goal

pub returns-in_ok-push-in-Scalar-clause-stands : goal.returns-in_ok-push-in-Scalar-clause-stands
returns-in_ok-push-in-Scalar-clause-stands c = λ s g t. scalar-stands s c.args.at c.args.self.now c.whole.new.self c.args.around.now _ (g ∙ ap Some c.in-Scalar.is) t c.in_ok-whole-in-Scalar.ensures.ok refl c.in_ok-push-in-Scalar.ensures.items

pub returns-in_ok-push-in-Alias-2-clause-stands : goal.returns-in_ok-push-in-Alias-2-clause-stands
returns-in_ok-push-in-Alias-2-clause-stands c = λ s g t. alias-stands s c.args.at c.args.self.now _ c.args.around.now _ (g ∙ ap Some c.in-Alias.is) t c.in_ok-push-in-Alias.ensures.items refl refl refl refl c.in_ok-push-in-Alias-2.ensures.items

pub returns-in_ok-push-in-Opens-clause-stands : goal.returns-in_ok-push-in-Opens-clause-stands
returns-in_ok-push-in-Opens-clause-stands c =
    let n : c.len.result ≡ length c.args.around.now.nodes.items = omega (arith, c.len.ensures, c.args.around.now.nodes.ok.0) in
    λ s g t. opens-stands s c.args.at c.args.self.now c.args.self.now c.args.around.now _ (g ∙ ap Some c.in-Opens.is) t refl (c.in_ok-push-in-Opens.ensures.items ∙ ap (λ k. c.args.around.now.outer.items ++ ((c.args.at, k) ∷ [])) n) refl

pub returns-in-Other-clause-stands : goal.returns-in-Other-clause-stands
returns-in-Other-clause-stands c = λ s g t. other-stands s c.args.at c.args.self.now c.args.self.now c.args.around.now c.args.around.now (g ∙ ap Some c.in-Other.is) t refl refl
