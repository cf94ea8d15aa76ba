use Rattle.yaml_diff.proofs.PatchLaws.{sequences-alike}
use Rattle.yaml_diff.proofs.laws.sequences_alike.Goals as goal

pub returns : goal.returns
returns c = sequences-alike
