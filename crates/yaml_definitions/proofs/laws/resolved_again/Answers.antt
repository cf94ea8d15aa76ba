use Rattle.yaml_definitions.proofs.ResolveLaws.{resolved_again}
use Rattle.yaml_definitions.proofs.laws.resolved_again.Goals as goal

pub returns : goal.returns
returns c = resolved_again
