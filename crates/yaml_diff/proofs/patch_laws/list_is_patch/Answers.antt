use Rattle.yaml_diff.proofs.PatchedLists.{list-patch}
use Rattle.yaml_diff.proofs.patch_laws.list_is_patch.Goals as goal

pub returns : goal.returns
returns c = list-patch
