use Rattle.std.proofs.Common.{sym, subst, map}
use Rattle.yaml_text.specs.EventModel.{event_of}
use Rattle.yaml_text.specs.Source.{text_of}
use Rattle.yaml_definitions.specs.grammar.Reading.{Reads}
use Rattle.yaml_definitions.proofs.grammar.Documents.{readings_are_documents}
use Rattle.yaml_graph.specs.Composed.{Composable}
use Rattle.rows_canon.proofs.lengths.length.Goals as goal

-- what is read is cut into documents
pub compose-requires : goal.compose-requires
unfolding Reads
compose-requires c =
    let d = readings_are_documents c.args.bytes.now (map event_of c.in_ok-events.events.items) (text_of c.in_ok-source.source, c.in_ok-source.ensures.read, c.in_ok-events.ensures.ok) in
    subst Composable (sym c.deref.ensures.value) (record { documents = d.0; cut = d.1 })
