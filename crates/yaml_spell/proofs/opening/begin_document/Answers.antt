use Rattle.std.proofs.Common.{◌≡◌, ◌∙◌, ap}
use Rattle.yaml_spell.specs.NamesView.{given_of}
use Rattle.yaml_spell.specs.Walked.{noticed}
use Rattle.yaml_spell.specs.declared.names.State.TheVariants.{Unseen}
use Rattle.yaml_spell.proofs.DocumentLaws.{marks-there}
use Rattle.yaml_spell.proofs.opening.begin_document.Goals as goal

pub returns-clause-serial : goal.returns-clause-serial
returns-clause-serial g c =
    let v = c.args.view.now in
    let R = g.V.RankedNodes.rank v in
    let T = g.V.RankedNodes.tree v in
    let i = g.V.RankedNodes.number c.args.root in
    let p = given_of c.notice.new.names in
    let e : p ≡ (noticed R (T i) (λ _. Unseen), 0) = (λ z. ((c.notice.ensures.table ∙ ap (noticed R (T i)) c.begin.ensures.table) z, (c.notice.ensures.others.count ∙ c.begin.ensures.count) z)) in
    marks-there (g.V.RankedNodes.count v) T R c.tells.ensures i p c.requires.within e
