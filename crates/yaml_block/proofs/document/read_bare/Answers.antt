use Rattle.std.proofs.Common.{subst}
use Rattle.yaml_definitions.specs.model.Limits.{open_limit}
use Rattle.yaml_text.specs.Source.{text_of, place_of}
use Rattle.yaml_definitions.specs.grammar.Streams.{l-bare-document as bare_document}
use Rattle.yaml_mark.specs.HandlesModel.{handles_of}
use Rattle.yaml_definitions.specs.grammar.Separation.{block_in}
use Rattle.law_going_on.specs.GoingOn.{Here}
use Rattle.yaml_layout.specs.NodeAnswer.{Decides}
use Rattle.yaml_sink.specs.SinkModel.{holds_of}
use Rattle.yaml_layout.proofs.AnswerLemmas.{appends_by}
use Rattle.yaml_block.specs.BlockEnds.{AfterNode}
use Rattle.yaml_block.proofs.Passing.{decides_rest}
use Rattle.yaml_block.proofs.RootDecisions.{document_root}
use Rattle.yaml_block.specs.BlockRules.{root_rest}
use Rattle.yaml_block.proofs.DocumentLemmas.{root_document}
use Rattle.yaml_block.proofs.document.read_bare.Goals as goal

pub returns-clause-reads : goal.returns-clause-reads
returns-clause-reads g c =
    let s = c.args.source.now in
    let cs = text_of s in
    let h = handles_of c.args.handles in
    let k = c.args.line.column in
    appends_by (λ _. root_rest cs (Unit {0}) h c.room.result k) (λ _. bare_document cs (Unit {0}) open_limit h)
    (place_of s c.args.line.start) (place_of s c.args.line.start) (λ line. place_of s line.start) (holds_of g.K.Keeper.holds) _ _ c.read_root.result
    (λ x es r. root_document cs h open_limit k _ _ es c.requires.start (subst (λ n. root_rest cs (Unit {0}) h n k (place_of s c.args.line.start) (place_of s x.start) es) c.room.ensures r)) c.read_root.ensures.reads

pub returns-clause-decides : goal.returns-clause-decides
returns-clause-decides g c =
    let s = c.args.source.now in
    let cs = text_of s in
    let h = handles_of c.args.handles in
    let line = c.requires.line in
    let i = place_of s c.args.line.start in
    subst (λ n. Decides (bare_document cs (Unit {0}) n h) (AfterNode cs 0 block_in) i Here (λ next. place_of s next.start) c.read_root.result) c.room.ensures
    (decides_rest (bare_document cs (Unit {0}) c.room.result h) (AfterNode cs 0 block_in) i (root_rest cs (Unit {0}) h c.room.result c.args.line.column) (AfterNode cs 0 block_in) i Here (λ next. place_of s next.start) c.read_root.result
    (document_root cs h c.room.result i c.args.line.column _ line.spaces c.requires.start line.stuck line.all) c.read_root.ensures.decides)
