use Rattle.yaml_definitions.proofs.MeaningLaws as meaning
use Rattle.yaml_definitions.proofs.SoundLaws.{read_is_proper}
use Rattle.yaml_definitions.proofs.laws.read_is_proper.Goals as goal

pub returns-clause-documents : goal.returns-clause-documents
returns-clause-documents c = read_is_proper

pub returns-clause-readings : goal.returns-clause-readings
returns-clause-readings c = meaning.readings_are_proper

pub returns-clause-bytes : goal.returns-clause-bytes
returns-clause-bytes c = meaning.meaning_is_proper
