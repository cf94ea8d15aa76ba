use Rattle.yaml_definitions.proofs.grammar.Widening.{readings_stay}
use Rattle.yaml_definitions.proofs.grammar_laws.readings_stay.Goals as goal

pub returns : goal.returns
returns c = readings_stay
