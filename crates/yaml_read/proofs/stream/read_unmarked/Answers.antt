use Rattle.law_going_on.specs.GoingOn.{Here}
use Rattle.std.proofs.Common.{false, [], ◌∷◌}
use Rattle.yaml_definitions.specs.model.Limits.{open_limit}
use Rattle.yaml_definitions.specs.model.Event.{document_start}
use Rattle.yaml_text.specs.Source.{text_of, place_of}
use Rattle.yaml_definitions.specs.grammar.Streams.{l-bare-document as bare_document}
use Rattle.yaml_read.proofs.StreamLemmas.{appends_after}
use Rattle.law_going_on.proofs.GoingOn.{rest_seen}
use Rattle.yaml_block.specs.DocumentCalls.{DocumentEnd}
use Rattle.yaml_read.proofs.DecidedLemmas.{decides_rest}
use Rattle.yaml_read.proofs.stream.read_unmarked.Goals as goal

pub returns-clause-reads : goal.returns-clause-reads
returns-clause-reads g c =
    let s = c.args.source.now in
    let cs = text_of s in
    appends_after (λ _. bare_document cs (Unit {0}) open_limit []) (document_start false) (place_of s c.args.line.start) (λ line. place_of s line.start)
    c.args.out.now _ _ c.read_bare.result c.in_ok-push.ensures.ok c.read_bare.ensures.reads

pub returns-clause-decides : goal.returns-clause-decides
returns-clause-decides g c =
    let s = c.args.source.now in
    let cs = text_of s in
    decides_rest Here (λ line. place_of s line.start) c.read_bare.result
    (rest_seen (λ es. document_start false ∷ es) (bare_document cs (Unit {0}) open_limit []) (DocumentEnd cs) (place_of s c.args.line.start)) c.read_bare.ensures.decides
