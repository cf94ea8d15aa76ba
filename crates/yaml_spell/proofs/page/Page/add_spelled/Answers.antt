use Rattle.std.proofs.Common.{◌++◌, ◌∷◌, [], refl, sym, ◌∙◌, ap, subst}
use Rattle.yaml_spell.specs.Stops.{fault_of}
use Rattle.yaml_spell.specs.Pages.{PageHolds, PageStops}
use Rattle.yaml_spell.specs.Pieces.{TakesPiece, Misses}
use Rattle.yaml_spell.proofs.PieceLaws.{on_ok, if_err}
use Rattle.yaml_spell.proofs.page.Page.add_spelled.Goals as goal

pub returns-then-is_unescaped-clause-ok : goal.returns-then-is_unescaped-clause-ok
returns-then-is_unescaped-clause-ok g c =
    let e = ap (λ z. 34 ∷ (z ++ (34 ∷ []))) c.as_bytes.ensures.value ∙ sym (c.if-is_unescaped.ensures.yes refl) in
    on_ok c.add_quoted.result c.add_quoted.ensures.ok (λ h. subst (TakesPiece (PageHolds g.W.Write.contents) c.args.self.now c.args.out.now c.add_quoted.new.self c.add_quoted.new.out) e h)

pub returns-then-is_unescaped-clause-err : goal.returns-then-is_unescaped-clause-err
returns-then-is_unescaped-clause-err g c =
    let e = ap (λ z. 34 ∷ (z ++ (34 ∷ []))) c.as_bytes.ensures.value ∙ sym (c.if-is_unescaped.ensures.yes refl) in
    if_err c.add_quoted.result c.add_quoted.ensures.err (λ stop h. subst (Misses (PageHolds g.W.Write.contents) (PageStops g.W.Write.contents) c.args.self.now c.args.out.now c.add_quoted.new.out (fault_of stop)) e h)
