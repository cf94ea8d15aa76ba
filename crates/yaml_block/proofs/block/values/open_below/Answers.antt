use Rattle.std.proofs.Common.{[], Some, refl, sym, subst, arith, inl, inr}
use Rattle.yaml_definitions.specs.grammar.Events.{no_props, e-scalar as empty}
use Rattle.yaml_text.specs.EventModel.{context_of}
use Rattle.yaml_text.specs.Source.{text_of, place_of}
use Rattle.yaml_mark.specs.HandlesModel.{handles_of}
use Rattle.law_going_on.specs.GoingOn.{Rest}
use Rattle.yaml_sink.specs.PropertyRules.{props_of}
use Rattle.yaml_sink.specs.SinkModel.{holds_of}
use Rattle.yaml_layout.proofs.AnswerLemmas.{puts_none}
use Rattle.yaml_block.specs.BlockRules.{node_rest, line_rest, sequence_with}
use Rattle.yaml_block.specs.BlockEnds.{AfterNode, AfterSequence}
use Rattle.yaml_block.specs.BlockCalls.{DecidesOpened}
use Rattle.yaml_block.specs.OuterRules.{column_of}
use Rattle.yaml_block.proofs.OuterLemmas.{column_free}
use Rattle.yaml_block.proofs.Opened.{opened_from, opened_by, opened_rest, whole_begins, whole_goes}
use Rattle.yaml_block.proofs.LineDecisions.{dash_here}
use Rattle.yaml_block.proofs.ValueDecisions.{lines_none, lines_dash, lines_node}
use Rattle.yaml_block.proofs.block.values.open_below.Goals as goal

pub returns-in-Nothing-clause-ends : goal.returns-in-Nothing-clause-ends
returns-in-Nothing-clause-ends g c = record { starts = record { line = c.requires.line; onward = omega arith; after = c.requires.after }; onward = omega arith }

pub returns-in-Nothing-clause-reads : goal.returns-in-Nothing-clause-reads
returns-in-Nothing-clause-reads g c =
    let s = c.args.source.now in
    let cs = text_of s in
    let level = c.args.level.now in
    let h = handles_of level.handles in
    let x = context_of level.context in
    (empty no_props, c.in_ok-push_nothing-in-Nothing.ensures.ok, whole_begins (line_rest cs (Unit {0}) h level.room level.least x) _ _ (empty no_props) (inr (inr (refl, refl))))

pub returns-in-Nothing-clause-decides : goal.returns-in-Nothing-clause-decides
returns-in-Nothing-clause-decides g c =
    let s = c.args.source.now in
    let cs = text_of s in
    let level = c.args.level.now in
    let h = handles_of level.handles in
    let x = context_of level.context in
    let line = c.requires.line in
    whole_goes (line_rest cs (Unit {0}) h level.room level.least x) (AfterNode cs level.least x) _ _ (lines_none cs h level.room level.least x c.requires.block _ c.args.line.column _ line.spaces line.all line.stuck c.in-Nothing.ensures)

pub returns-in-Sequence-clause-ends : goal.returns-in-Sequence-clause-ends
returns-in-Sequence-clause-ends g c =
    let line = c.requires.line in
    record { starts = record { border = line.first; dash = c.in-Sequence.ensures.0; low = omega (arith, line.wide) }; onward = omega (arith, line.wide) }

pub returns-in-Sequence-clause-reads : goal.returns-in-Sequence-clause-reads
returns-in-Sequence-clause-reads g c =
    let s = c.args.source.now in
    let cs = text_of s in
    let level = c.args.level.now in
    let h = handles_of level.handles in
    let x = context_of level.context in
    let k = c.args.line.column in
    let i = place_of s c.args.line.first in
    ([], puts_none c.args.out.now, λ j vs v. inr (inl (k, (c.in-Sequence.ensures.1, (i, c.requires.line.spaces, subst (λ p. sequence_with cs (Unit {0}) h p level.room k i j vs) c.none-outer.ensures v)))))

pub returns-in-Sequence-clause-decides : goal.returns-in-Sequence-clause-decides
returns-in-Sequence-clause-decides g c =
    let s = c.args.source.now in
    let cs = text_of s in
    let level = c.args.level.now in
    let h = handles_of level.handles in
    let x = context_of level.context in
    let k = c.args.line.column in
    let line = c.requires.line in
    let i = place_of s c.args.line.first in
    subst (λ p. Rest (line_rest cs (Unit {0}) h level.room level.least x) (AfterNode cs level.least x) (place_of s c.args.line.start) (sequence_with cs (Unit {0}) h p level.room k) (AfterSequence cs k) i) (sym c.none-outer.ensures)
    (lines_dash cs h level.room level.least x c.requires.block _ k _ line.spaces line.all line.stuck (dash_here s _ _ c.in-Sequence.ensures.0) c.in-Sequence.ensures.1)

pub returns-clause-ends : goal.returns-clause-ends
returns-clause-ends g c = opened_from c.args.source.now c.args.level.now c.args.line.start c.args.line.first c.open_node.result (omega (arith, c.requires.line.wide)) c.open_node.ensures.ends

pub returns-clause-reads : goal.returns-clause-reads
returns-clause-reads g c =
    let s = c.args.source.now in
    let cs = text_of s in
    let level = c.args.level.now in
    let h = handles_of level.handles in
    let x = context_of level.context in
    let p = props_of c.none-outer.result in
    let k = c.args.line.column in
    let i = place_of s c.args.line.first in
    opened_by (node_rest cs (Unit {0}) h level.room level.least x (column_of p (Some k))) (line_rest cs (Unit {0}) h level.room level.least x) s level i (place_of s c.args.line.start) (holds_of g.K.Keeper.holds) _ _ c.open_node.result
    (λ j es r. inl (k, (c.in-Node.ensures.far, (i, c.requires.line.spaces, subst (λ o. node_rest cs (Unit {0}) h level.room level.least x o i j es) (column_free p (Some k) c.none-outer.ensures) r)))) c.open_node.ensures.reads

pub returns-clause-decides : goal.returns-clause-decides
returns-clause-decides g c =
    let s = c.args.source.now in
    let cs = text_of s in
    let level = c.args.level.now in
    let h = handles_of level.handles in
    let x = context_of level.context in
    let k = c.args.line.column in
    let line = c.requires.line in
    let n = c.in-Node.ensures in
    let p = props_of c.none-outer.result in
    opened_rest s level c.args.line.start c.args.line.first (line_rest cs (Unit {0}) h level.room level.least x) (AfterNode cs level.least x) (node_rest cs (Unit {0}) h level.room level.least x (Some k)) (AfterNode cs level.least x) c.open_node.result
    (lines_node cs h level.room level.least x c.requires.block _ k _ line.spaces line.all line.stuck n.no_dash n.far n.some n.no_mark)
    (subst (λ o. DecidesOpened s level c.args.line.first (node_rest cs (Unit {0}) h level.room level.least x o) (AfterNode cs level.least x) c.open_node.result) (column_free p (Some k) c.none-outer.ensures) c.open_node.ensures.decides)
