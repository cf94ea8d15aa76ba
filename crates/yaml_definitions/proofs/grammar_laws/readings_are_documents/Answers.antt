use Rattle.yaml_definitions.proofs.grammar.Documents.{readings_are_documents}
use Rattle.yaml_definitions.proofs.grammar_laws.readings_are_documents.Goals as goal

pub returns : goal.returns
returns c = readings_are_documents
