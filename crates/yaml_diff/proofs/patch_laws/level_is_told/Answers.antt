use Rattle.yaml_diff.proofs.LevelLaws.{level-told}
use Rattle.yaml_diff.proofs.patch_laws.level_is_told.Goals as goal

pub returns : goal.returns
returns c = level-told
