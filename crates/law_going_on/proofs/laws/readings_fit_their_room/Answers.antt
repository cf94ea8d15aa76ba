use Rattle.law_going_on.proofs.Depths.{reads_peak}
use Rattle.yaml_definitions.specs.grammar.Laws.{Profile}
use Rattle.law_going_on.proofs.laws.readings_fit_their_room.Goals as goal

pub returns : goal.returns
returns c = λ cs wide. reads_peak cs (Profile wide)
