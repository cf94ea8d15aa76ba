use Rattle.std.proofs.Common.{subst}
use Rattle.yaml_definitions.specs.model.Limits.{open_limit}
use Rattle.yaml_text.specs.Source.{text_of, place_of}
use Rattle.yaml_definitions.specs.grammar.Rules.{◌◂◌, ◌∪◌, gives}
use Rattle.yaml_definitions.specs.grammar.Events.{no_props, e-scalar as empty}
use Rattle.yaml_definitions.specs.grammar.Separation.{block_in, s-l-comments as s_l_comments}
use Rattle.yaml_definitions.specs.grammar.Streams.{l-bare-document as bare_document}
use Rattle.yaml_mark.specs.HandlesModel.{handles_of}
use Rattle.law_going_on.specs.GoingOn.{Here}
use Rattle.yaml_layout.specs.NodeAnswer.{Decides}
use Rattle.yaml_sink.specs.SinkModel.{holds_of}
use Rattle.yaml_layout.proofs.AnswerLemmas.{appends_by}
use Rattle.yaml_block.specs.BlockEnds.{AfterNode}
use Rattle.yaml_block.proofs.Passing.{decides_rest}
use Rattle.yaml_block.proofs.RootDecisions.{marked_value}
use Rattle.yaml_block.specs.BlockRules.{value_rest}
use Rattle.yaml_block.proofs.DocumentLemmas.{marked_document}
use Rattle.yaml_block.proofs.document.read_marked.Goals as goal

pub returns-clause-reads : goal.returns-clause-reads
returns-clause-reads g c =
    let s = c.args.source.now in
    let cs = text_of s in
    let h = handles_of c.args.handles in
    appends_by (λ _. value_rest cs (Unit {0}) h c.room.result 0 block_in) (λ _. bare_document cs (Unit {0}) open_limit h ∪ (gives (empty no_props) ◂ s_l_comments cs))
    (place_of s c.args.at) (place_of s c.args.at) (λ line. place_of s line.start) (holds_of g.K.Keeper.holds) _ _ c.read_value.result
    (λ x es r. marked_document cs h open_limit _ _ es (subst (λ n. value_rest cs (Unit {0}) h n 0 block_in (place_of s c.args.at) (place_of s x.start) es) c.room.ensures r)) c.read_value.ensures.reads

pub returns-clause-decides : goal.returns-clause-decides
returns-clause-decides g c =
    let s = c.args.source.now in
    let cs = text_of s in
    let h = handles_of c.args.handles in
    let i = place_of s c.args.at in
    subst (λ n. Decides (bare_document cs (Unit {0}) n h ∪ (gives (empty no_props) ◂ s_l_comments cs)) (AfterNode cs 0 block_in) i Here (λ next. place_of s next.start) c.read_value.result) c.room.ensures
    (decides_rest (bare_document cs (Unit {0}) c.room.result h ∪ (gives (empty no_props) ◂ s_l_comments cs)) (AfterNode cs 0 block_in) i (value_rest cs (Unit {0}) h c.room.result 0 block_in) (AfterNode cs 0 block_in) i Here (λ next. place_of s next.start)
    c.read_value.result (marked_value cs h c.room.result i) c.read_value.ensures.decides)
