use Rattle.std.proofs.Common.{◌≡◌, true, false, ◌∷◌, sym, ap, ◌∙◌}
use Rattle.yaml_events.proofs.Names.{anchor_is}
use Rattle.yaml_events.proofs.name.read_anchor.Goals as goal

pub returns-then-not-is_name : goal.returns-then-not-is_name
returns-then-not-is_name c = λ a p.
    let s = c.in-Some.ensures.cases in
    let q = anchor_is c.args.text.now c.in-Some.after.now _ _ (s.1.1 ∙ ap (λ z. 32 ∷ 38 ∷ z) (sym s.2)) c.cut_at_space.ensures a p in
    let e : true ≡ false = sym q.0 ∙ sym c.if-not-is_name.ensures in
    absurd (cc)

pub returns : goal.returns
returns c =
    let s = c.in-Some.ensures.cases in
    let e = s.1.1 ∙ ap (λ z. 32 ∷ 38 ∷ z) (sym s.2) in
    ((sym c.if-not-is_name.ensures, e ∙ ap (λ z. 32 ∷ 38 ∷ z) c.cut_at_space.ensures.0), λ a p. (anchor_is c.args.text.now c.in-Some.after.now _ _ e c.cut_at_space.ensures a p).1)
