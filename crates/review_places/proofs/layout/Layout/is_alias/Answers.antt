use Rattle.std.proofs.Common.{◌==◌, sym, ◌∙◌, ap, subst}
use Rattle.std.specs.List.{list_any}
use Rattle.std.specs.List.Sorted.{IsNonDecreasing}
use Rattle.review_places.proofs.AliasLaws.{is-found, aliases-rise}
use Rattle.review_places.proofs.layout.Layout.is_alias.Goals as goal

pub returns : goal.returns
returns c = λ s h.
    let e = c.deref.ensures.value in
    let rising : IsNonDecreasing c.deref.result.now = subst IsNonDecreasing (sym (e ∙ h.aliases)) (aliases-rise 0 s) in
    c.is_ok.ensures.value ∙ is-found c.deref.result.now c.args.event c.binary_search.result rising c.binary_search.ensures.position ∙ ap (list_any (λ a. a == c.args.event)) e
