use Rattle.law_going_on.specs.GoingOn.{Here}
use Rattle.std.proofs.Common.{true}
use Rattle.yaml_definitions.specs.model.Limits.{open_limit}
use Rattle.yaml_definitions.specs.model.Event.{document_start}
use Rattle.yaml_text.specs.Source.{text_of, place_of}
use Rattle.yaml_definitions.specs.grammar.Rules.{◌◂◌, ◌∪◌, gives}
use Rattle.yaml_definitions.specs.grammar.Events.{no_props, e-scalar as empty}
use Rattle.yaml_definitions.specs.grammar.Separation.{s-l-comments as s_l_comments}
use Rattle.yaml_definitions.specs.grammar.Streams.{l-bare-document as bare_document}
use Rattle.yaml_mark.specs.HandlesModel.{handles_of}
use Rattle.yaml_read.proofs.StreamLemmas.{appends_after}
use Rattle.yaml_read.proofs.DecidedLemmas.{decides_rest, opened_rest}
use Rattle.yaml_read.proofs.stream.read_explicit.Goals as goal

pub returns-clause-reads : goal.returns-clause-reads
returns-clause-reads g c =
    let s = c.args.source.now in
    let cs = text_of s in
    let h = handles_of c.args.handles in
    appends_after (λ _. bare_document cs (Unit {0}) open_limit h ∪ (gives (empty no_props) ◂ s_l_comments cs)) (document_start true) (place_of s c.args.after) (λ line. place_of s line.start)
    c.args.out.now _ _ c.read_marked.result c.in_ok-push.ensures.ok c.read_marked.ensures.reads

pub returns-clause-decides : goal.returns-clause-decides
returns-clause-decides g c =
    let s = c.args.source.now in
    decides_rest Here (λ line. place_of s line.start) c.read_marked.result (opened_rest (text_of s) (handles_of c.args.handles) (place_of s c.args.after)) c.read_marked.ensures.decides
