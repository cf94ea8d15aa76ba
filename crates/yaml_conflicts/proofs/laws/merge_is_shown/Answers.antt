use Rattle.yaml_conflicts.proofs.ShownLaws.{merge-shown}
use Rattle.yaml_conflicts.proofs.laws.merge_is_shown.Goals as goal

pub returns : goal.returns
returns c = λ b o t m kb ko kt km h p. merge-shown p b o t m kb ko kt km h
