use Rattle.yaml_conflicts.proofs.ShownLaws.{whole-sequence}
use Rattle.yaml_conflicts.proofs.laws.sequences_are_whole.Goals as goal

pub returns : goal.returns
returns c = λ b o t m kb ko kt km h p i. whole-sequence p b o t m kb ko kt km h i
