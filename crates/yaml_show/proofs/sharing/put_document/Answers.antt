use Rattle.std.proofs.Common.{ap}
use Rattle.yaml_show.specs.declared.place.Place.TheVariants.{Root}
use Rattle.yaml_show.specs.Sharing.{sharing_lines}
use Rattle.yaml_show.proofs.DraftLaws.{adds_as, adds_then}
use Rattle.yaml_show.proofs.sharing.put_document.Goals as goal

pub returns-clause-adds : goal.returns-clause-adds
returns-clause-adds g c =
    let t = g.V.RankedNodes.tree c.args.view.now (g.V.RankedNodes.number c.args.root) in
    adds_then _ _ _ _ _ c.put.ensures (adds_as _ _ _ _ (ap (sharing_lines Root 0 t) c.begin_document.ensures.serial) c.put_node.ensures.adds)
