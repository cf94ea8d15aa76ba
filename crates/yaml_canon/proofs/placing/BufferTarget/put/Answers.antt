use Rattle.std.proofs.Common.{◌≤◌, map, subst}
use Rattle.yaml_definitions.specs.model.Limits.{text_limit}
use Rattle.yaml_spell.specs.RankedNodes.{tree_of}
use Rattle.yaml_spell.proofs.PieceLaws.{if_ok}
use Rattle.yaml_canon.proofs.PlaceLaws.{unfilled}
use Rattle.yaml_canon.proofs.placing.BufferTarget.put.Goals as goal

pub returns-clause-ok : goal.returns-clause-ok
returns-clause-ok g c = if_ok c.place.result c.place.ensures.ok c.place.ensures.fits (λ len p l. record { fits = subst (λ n. n ≤ text_limit) p.long l; put = p })

pub returns-clause-err : goal.returns-clause-err
returns-clause-err g c =
    let ts = map (tree_of g.V.RankedNodes.tree g.V.RankedNodes.number c.args.view.now) c.args.roots.now in
    unfilled ts c.args.self.now c.place.new.room c.place.result c.place.ensures.err c.place.ensures.kept
