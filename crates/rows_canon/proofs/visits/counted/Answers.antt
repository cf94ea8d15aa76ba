use Rattle.std.proofs.Common.{[], subst}
use Rattle.yaml_text.specs.Source.{text_of}
use Rattle.yaml_definitions.specs.grammar.Reading.{Reads}
use Rattle.yaml_definitions.proofs.grammar.Documents.{readings_are_documents}
use Rattle.yaml_sink.specs.SinkModel.{holds_of}
use Rattle.yaml_store_composer.specs.KeeperModel.{Composes}
use Rattle.rows_canon.proofs.visits.counted.Goals as goal

pub compact_rank-requires-clause-good : goal.compact_rank-requires-clause-good
unfolding Reads
compact_rank-requires-clause-good c =
    let read = c.in_ok-read_into.ensures.ok in
    let d = readings_are_documents c.args.bytes.now read.0 (text_of c.in_ok-source.source, c.in_ok-source.ensures.read, read.2) in
    let held = subst (λ v. holds_of Composes v read.0) c.in-Kept.is (read.1.is [] c.in_ok-composing.ensures) in
    (c.in_ok-forest.ensures.forest d.0 (subst (Composes c.in-Kept.composing) d.1 held)).good

pub compact_rank-requires-clause-low : goal.compact_rank-requires-clause-low
unfolding Reads
compact_rank-requires-clause-low c =
    let read = c.in_ok-read_into.ensures.ok in
    let d = readings_are_documents c.args.bytes.now read.0 (text_of c.in_ok-source.source, c.in_ok-source.ensures.read, read.2) in
    let held = subst (λ v. holds_of Composes v read.0) c.in-Kept.is (read.1.is [] c.in_ok-composing.ensures) in
    (c.in_ok-forest.ensures.forest d.0 (subst (Composes c.in-Kept.composing) d.1 held)).level
