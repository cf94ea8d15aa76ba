use Rattle.std.proofs.Common.{Some, inl, inr, subst}
use Rattle.yaml_text.specs.Source.{text_of, place_of}
use Rattle.yaml_definitions.specs.grammar.Separation.{block_in}
use Rattle.yaml_mark.specs.HandlesModel.{handles_of}
use Rattle.yaml_sink.specs.PropertyRules.{props_of}
use Rattle.yaml_sink.specs.SinkModel.{holds_of}
use Rattle.yaml_layout.proofs.AnswerLemmas.{appends_by}
use Rattle.yaml_block.specs.BlockRules.{root_rest, node_rest, sequence_with}
use Rattle.yaml_block.specs.OuterRules.{column_of}
use Rattle.yaml_definitions.specs.grammar.Events.{no_props}
use Rattle.law_going_on.specs.GoingOn.{Here}
use Rattle.yaml_layout.specs.NodeAnswer.{Decides}
use Rattle.yaml_block.specs.BlockEnds.{AfterNode, AfterSequence}
use Rattle.yaml_block.proofs.OuterLemmas.{column_free}
use Rattle.yaml_block.proofs.Passing.{decides_rest}
use Rattle.yaml_block.proofs.LineDecisions.{dash_here}
use Rattle.yaml_block.proofs.RootDecisions.{root_dash, root_node}
use Rattle.yaml_block.proofs.block.nodes.read_root.Goals as goal

pub returns-in-Some-clause-reads : goal.returns-in-Some-clause-reads
returns-in-Some-clause-reads g c =
    let s = c.args.source.now in
    let cs = text_of s in
    let h = handles_of c.args.handles in
    let k = c.args.line.column in
    appends_by (λ _. sequence_with cs (Unit {0}) h (props_of c.none-outer.result) c.args.room k) (λ _. root_rest cs (Unit {0}) h c.args.room k)
    (place_of s c.args.line.first) (place_of s c.args.line.start) (λ line. place_of s line.start) (holds_of g.K.Keeper.holds) _ _ c.read_sequence.result
    (λ x es r. (place_of s c.args.line.first, c.requires.line.spaces, inl (subst (λ p. sequence_with cs (Unit {0}) h p c.args.room k (place_of s c.args.line.first) (place_of s x.start) es) c.none-outer.ensures r))) c.read_sequence.ensures.reads

pub returns-in-None-clause-reads : goal.returns-in-None-clause-reads
returns-in-None-clause-reads g c =
    let s = c.args.source.now in
    let cs = text_of s in
    let h = handles_of c.args.handles in
    let p = props_of c.none-outer.result in
    let k = c.args.line.column in
    appends_by (λ _. node_rest cs (Unit {0}) h c.args.room 0 block_in (column_of p (Some k))) (λ _. root_rest cs (Unit {0}) h c.args.room k)
    (place_of s c.args.line.first) (place_of s c.args.line.start) (λ line. place_of s line.start) (holds_of g.K.Keeper.holds) _ _ c.read_node.result
    (λ x es r. (place_of s c.args.line.first, c.requires.line.spaces, inr (subst (λ o. node_rest cs (Unit {0}) h c.args.room 0 block_in o (place_of s c.args.line.first) (place_of s x.start) es) (column_free p (Some k) c.none-outer.ensures) r))) c.read_node.ensures.reads

pub returns-in-Some-clause-decides : goal.returns-in-Some-clause-decides
returns-in-Some-clause-decides g c =
    let s = c.args.source.now in
    let cs = text_of s in
    let h = handles_of c.args.handles in
    let k = c.args.line.column in
    let i = place_of s c.args.line.first in
    decides_rest (root_rest cs (Unit {0}) h c.args.room k) (AfterNode cs 0 block_in) (place_of s c.args.line.start) (sequence_with cs (Unit {0}) h no_props c.args.room k) (AfterSequence cs k) i Here (λ line. place_of s line.start) c.read_sequence.result
    (root_dash cs h c.args.room _ k _ c.requires.line.spaces (dash_here s _ _ c.in-Some.ensures.some))
    (subst (λ p. Decides (sequence_with cs (Unit {0}) h p c.args.room k) (AfterSequence cs k) i Here (λ line. place_of s line.start) c.read_sequence.result) c.none-outer.ensures c.read_sequence.ensures.decides)

pub returns-in-None-clause-decides : goal.returns-in-None-clause-decides
returns-in-None-clause-decides g c =
    let s = c.args.source.now in
    let cs = text_of s in
    let h = handles_of c.args.handles in
    let k = c.args.line.column in
    let i = place_of s c.args.line.first in
    let p = props_of c.none-outer.result in
    decides_rest (root_rest cs (Unit {0}) h c.args.room k) (AfterNode cs 0 block_in) (place_of s c.args.line.start) (node_rest cs (Unit {0}) h c.args.room 0 block_in (Some k)) (AfterNode cs 0 block_in) i Here (λ line. place_of s line.start) c.read_node.result
    (root_node cs h c.args.room _ k _ c.requires.line.spaces c.in-None.ensures.none)
    (subst (λ o. Decides (node_rest cs (Unit {0}) h c.args.room 0 block_in o) (AfterNode cs 0 block_in) i Here (λ line. place_of s line.start) c.read_node.result) (column_free p (Some k) c.none-outer.ensures) c.read_node.ensures.decides)
