use Rattle.std.specs.Prelude.{IfNone}
use Rattle.std.proofs.Common.{◌≡◌, ◌∷◌, [], ◌&&◌, not, length, refl, sym, ◌∙◌, ap, subst, rules, tests}
use Rattle.review_places.specs.Layout.{is_alias_event}
use Rattle.review_places.specs.Seats.{forests_of, IsEnd, EndsNowhere}
use Rattle.review_places.proofs.SeatLaws.{if_none, end-further, ends-first, ends-here}
use Rattle.review_places.proofs.finder.Finder.+walk.Goals as goal
use Rattle.review_places.proofs.finder.Finder.+walk.Goals.{then-above, else-above}

pub returns-then-is_empty-clause-none : goal.returns-then-is_empty-clause-none
returns-then-is_empty-clause-none t c =
    let f = forests_of c.args.self.now in
    let stream = c.args.self.now.stream in
    let layout = c.args.self.now.layout in
    let step = c.in_ok-step.step.now in
    let rest = c.in_ok-step.rest.now in
    let path : c.args.path.now ≡ step ∷ rest = search rules in
    let none : length rest ≡ 0 = search rules in
    if_none c.begin.result c.begin.ensures.none (λ h. subst (EndsNowhere f stream layout) (sym path) (ends-first f stream layout rest step none h))

pub returns-in_err-part-clause-none : goal.returns-in_err-part-clause-none
returns-in_err-part-clause-none t c =
    let f = forests_of c.args.self.now in
    let stream = c.args.self.now.stream in
    let layout = c.args.self.now.layout in
    let above = c.in_ok-above.above in
    let step = c.in_ok-step.step.now in
    let rest = c.in_ok-step.rest.now in
    let path : c.args.path.now ≡ step ∷ rest = search rules in
    let some : rest ≡ [] → ⊥ = λ q. search (rules, tests) in
    let ends = ends-here f stream layout c.laws.ensures rest step above.0 above.1 above.2 some c.in_ok-above.ensures.leads c.in_err-part.ensures.none in
    subst (λ z. IfNone z (EndsNowhere f stream layout c.args.path.now)) (sym c.from_residual-in_err-part.ensures) (subst (EndsNowhere f stream layout) (sym path) ends)

pub returns-clause-leads : goal.returns-clause-leads
returns-clause-leads t c =
    let f = forests_of c.args.self.now in
    let stream = c.args.self.now.stream in
    let layout = c.args.self.now.layout in
    let above = c.in_ok-above.above in
    let part = c.in_ok-part.part in
    let step = c.in_ok-step.step.now in
    let rest = c.in_ok-step.rest.now in
    let path : c.args.path.now ≡ step ∷ rest = search rules in
    let i = c.in_ok-above.ensures.leads in
    let p = c.in_ok-part.ensures.leads in
    subst (λ z. IsEnd f stream layout z part.0 part.1 c.if-above.is_own) (sym path) (elim c.if-above.branch [
      | then-above w ↦
          let e : above.2 && not w.is_alias.result ≡ c.if-above.is_own = ap (λ z. z && not w.is_alias.result) w.if-above.true ∙ sym w.is_own-is in
          subst (IsEnd f stream layout (step ∷ rest) part.0 part.1) e (end-further f stream layout rest step above.0 part.0 above.1 part.1 above.2 w.is_alias.result i p w.is_alias.ensures)
      | else-above w ↦
          let alias = is_alias_event layout part.1 in
          let e : above.2 && not alias ≡ c.if-above.is_own = ap (λ z. z && not alias) w.if-above.false ∙ sym w.if-above.false ∙ sym w.is_own-is in
          subst (IsEnd f stream layout (step ∷ rest) part.0 part.1) e (end-further f stream layout rest step above.0 part.0 above.1 part.1 above.2 alias i p (λ s h. refl))
    ])
