use Rattle.yaml_diff.proofs.LevelLaws.{told-level}
use Rattle.yaml_diff.proofs.patch_laws.told_is_level.Goals as goal

pub returns : goal.returns
returns c = told-level
