use Rattle.yaml_definitions.proofs.grammar.OneText.{one-text}
use Rattle.yaml_definitions.proofs.grammar_laws.one_text.Goals as goal

pub returns : goal.returns
returns c = one-text
