use Rattle.std.proofs.Common.{arith}
use Rattle.yaml_show.proofs.DraftLaws.{adds_as, adds_then}
use Rattle.yaml_show.proofs.SharingLaws.{name_text}
use Rattle.yaml_show.proofs.draft.put_alias.Goals as goal

pub returns : goal.returns
returns c = adds_as _ _ _ _ (name_text 42 c.args.number c.requires (omega arith)) (adds_then _ _ _ _ _ c.put.ensures c.put_number.ensures)
