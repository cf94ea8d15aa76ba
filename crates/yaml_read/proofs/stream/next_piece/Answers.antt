use Rattle.yaml_text.specs.Source.{text_of}
use Rattle.yaml_text.proofs.Tests.{on_false_at}
use Rattle.yaml_read.proofs.StreamLemmas.{no_mark}
use Rattle.yaml_read.proofs.stream.next_piece.Goals as goal

pub returns-in-None-document_mark : goal.returns-in-None-document_mark
returns-in-None-document_mark c =
    let cs = text_of c.args.source.now in
    (on_false_at c.is_end.result c.if-is_end.false c.is_end.ensures.no, no_mark cs _ c.in-None.ensures.none c.in-None-document_mark.ensures.none)
