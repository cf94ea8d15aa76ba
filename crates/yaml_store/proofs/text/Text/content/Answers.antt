use Rattle.std.proofs.Common.{ℕ, List, Bor, refl, sym, ◌∙◌, ap, subst}
use Rattle.std.specs.Str.{IsUtf8}
use Rattle.yaml_store.proofs.ContentLaws.{content-got}
use Rattle.yaml_store.proofs.text.Text.content.Goals as goal

pub returns : goal.returns
returns c =
    let h = c.home.ensures.home in
    let part = c.home.result.0 in
    let p = c.home.result.1 in
    let w = h.within c.requires.within in
    let u = subst IsUtf8 (sym h.same) c.requires.utf8 in
    ap (λ (z : Bor (List ℕ)). z.now) c.unwrap_or.ensures ∙ (sym (content-got part.now p.start p.end c.get.result _ refl c.home.ensures.utf8 u w.0 w.1 c.get.ensures.cases) ∙ h.same)
