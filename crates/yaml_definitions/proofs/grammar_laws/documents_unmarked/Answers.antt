use Rattle.yaml_definitions.specs.grammar.Streams.{l-bare-document as bare_document}
use Rattle.yaml_definitions.proofs.grammar_laws.documents_unmarked.Goals as goal

pub returns : goal.returns
unfolding bare_document
returns c cs wide room handles i j es r = r.0
