use Rattle.yaml_scalar.proofs.SpelledReadings.{reads_back}
use Rattle.yaml_scalar.proofs.laws.spellings_are_read_back.Goals as goal

pub returns : goal.returns
returns c = reads_back
