use Rattle.yaml_definitions.proofs.MeaningLaws.{readings_have_text}
use Rattle.yaml_definitions.proofs.laws.readings_have_text.Goals as goal

pub returns : goal.returns
returns c = readings_have_text
