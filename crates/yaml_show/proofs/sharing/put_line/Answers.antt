use Rattle.yaml_show.proofs.DraftLaws.{adds_as, adds_three}
use Rattle.yaml_show.proofs.sharing.put_line.Goals as goal

pub returns-clause-adds : goal.returns-clause-adds
returns-clause-adds g c = adds_three _ _ _ _ _ _ _ (adds_as _ _ _ _ c.space.ensures c.put.ensures) c.put_flow_inside.ensures.adds c.put-2.ensures
