use Rattle.yaml_show.proofs.DraftLaws.{adds_as, adds_three}
use Rattle.yaml_show.proofs.sharing.put_alias_line.Goals as goal

pub returns : goal.returns
returns c = adds_three _ _ _ _ _ _ _ (adds_as _ _ _ _ c.space.ensures c.put.ensures) c.put_alias.ensures c.put-2.ensures
