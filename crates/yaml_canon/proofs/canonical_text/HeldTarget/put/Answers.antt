use Rattle.std.proofs.Common.{◌≤◌, length, map, refl, subst}
use Rattle.yaml_definitions.specs.model.Limits.{text_limit}
use Rattle.yaml_spell.specs.RankedNodes.{tree_of}
use Rattle.yaml_spell.proofs.PieceLaws.{if_ok, if_err}
use Rattle.yaml_canon.proofs.TargetLaws.{left_arranged}
use Rattle.yaml_canon.proofs.canonical_text.HeldTarget.put.Goals as goal

pub returns-clause-ok : goal.returns-clause-ok
returns-clause-ok g c = if_ok c.spelled.result c.spelled.ensures.ok c.spelled.ensures.fits (λ text e l. record { fits = subst (λ z. length z ≤ text_limit) e l; put = e })

pub returns-clause-err : goal.returns-clause-err
returns-clause-err g c =
    let ts = map (tree_of g.V.RankedNodes.tree g.V.RankedNodes.number c.args.view.now) c.args.roots.now in
    if_err c.spelled.result c.spelled.ensures.err (λ fault h. left_arranged (λ _ _ _. ⊥) ts _ _ fault refl h)
