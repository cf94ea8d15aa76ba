use Rattle.yaml_definitions.proofs.Law.{texts_tell}
use Rattle.yaml_definitions.proofs.laws.texts_tell.Goals as goal

pub returns : goal.returns
returns c = texts_tell
