use Rattle.yaml_path.proofs.BreakLaws.{break-ends, ends-break}
use Rattle.yaml_path.proofs.place_laws.breaks_are_breaks.Goals as goal

pub returns : goal.returns
returns c = λ cs k. (break-ends cs k, ends-break cs k)
