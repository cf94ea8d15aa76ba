use Rattle.yaml_show.proofs.DraftLaws.{adds_as, adds_then}
use Rattle.yaml_show.proofs.sharing.put_anchor_behind.Goals as goal

pub returns : goal.returns
returns c = adds_then _ _ _ _ _ (adds_as _ _ _ _ c.space.ensures c.put.ensures) c.put_anchor.ensures
