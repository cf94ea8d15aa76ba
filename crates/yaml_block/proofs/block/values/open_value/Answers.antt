use Rattle.std.proofs.Common.{◌≡◌, ℕ, None, sym, subst, arith, inr}
use Rattle.yaml_definitions.specs.grammar.Separation.{s-l-comments as s_l_comments}
use Rattle.yaml_text.specs.EventModel.{context_of}
use Rattle.yaml_text.specs.Source.{text_of, place_of}
use Rattle.yaml_text.specs.declared.chars.Chars.{Chars}
use Rattle.yaml_mark.specs.HandlesModel.{handles_of}
use Rattle.yaml_sink.specs.PropertyRules.{props_of}
use Rattle.yaml_sink.specs.SinkModel.{holds_of}
use Rattle.yaml_layout.proofs.PropertyDecisions.{or_else}
use Rattle.yaml_layout.proofs.Deciding.{at_err}
use Rattle.yaml_block.specs.BlockRules.{node_rest, line_rest, value_rest}
use Rattle.yaml_block.specs.BlockEnds.{AfterNode}
use Rattle.yaml_block.specs.BlockCalls.{DecidesOpened}
use Rattle.yaml_block.specs.OuterRules.{column_of}
use Rattle.yaml_block.proofs.BlockLemmas.{line_value, same_value}
use Rattle.yaml_block.proofs.OuterLemmas.{column_none}
use Rattle.yaml_block.proofs.Opened.{opened_from, opened_by, opened_rest, whole_begins, whole_goes}
use Rattle.yaml_block.proofs.LineDecisions.{comments_after}
use Rattle.yaml_block.proofs.ValueDecisions.{value_below, value_beside, value_gap}
use Rattle.law_going_on.proofs.GoingOn.{rest_goes, rest_refused}
use Rattle.yaml_block.proofs.block.values.open_value.Goals as goal

-- comments up to where a line starts
moved : (s : Chars) (at start to : ℕ) → to ≡ start → s_l_comments (text_of s) (place_of s at) (place_of s start) → s_l_comments (text_of s) (place_of s at) (place_of s to)
moved s at start to e r = subst (λ x. s_l_comments (text_of s) (place_of s at) (place_of s x)) (sym e) r

pub open_below-requires : goal.open_below-requires
open_below-requires g c =
    let s = c.args.source.now in
    record {
      line = c.line_at-line.ensures.line;
      low = omega (arith, c.requires.low, c.in-Some.ensures.onward, c.line_at-line.ensures.start);
      block = c.requires.block;
      after = comments_after (text_of s) _ _ (moved s _ _ _ c.line_at-line.ensures.start c.in-Some.ensures.some);
    }

pub returns-in-Some-clause-ends : goal.returns-in-Some-clause-ends
returns-in-Some-clause-ends g c = opened_from c.args.source.now c.args.level.now c.args.at c.line_at-line.result.start c.open_below.result (omega (arith, c.in-Some.ensures.onward, c.line_at-line.ensures.start)) c.open_below.ensures.ends

pub returns-in-Some-clause-reads : goal.returns-in-Some-clause-reads
returns-in-Some-clause-reads g c =
    let s = c.args.source.now in
    let cs = text_of s in
    let level = c.args.level.now in
    let h = handles_of level.handles in
    let x = context_of level.context in
    opened_by (line_rest cs (Unit {0}) h level.room level.least x) (value_rest cs (Unit {0}) h level.room level.least x) s level (place_of s c.line_at-line.result.start) (place_of s c.args.at) (holds_of g.K.Keeper.holds) _ _ c.open_below.result
    (λ j es r. line_value cs (Unit {0}) h level.room level.least x _ _ _ es c.requires.block (moved s _ _ _ c.line_at-line.ensures.start c.in-Some.ensures.some) r) c.open_below.ensures.reads

pub returns-in-Some-clause-decides : goal.returns-in-Some-clause-decides
returns-in-Some-clause-decides g c =
    let s = c.args.source.now in
    let cs = text_of s in
    let level = c.args.level.now in
    let h = handles_of level.handles in
    let x = context_of level.context in
    let line = c.line_at-line.ensures.line in
    opened_rest s level c.args.at c.line_at-line.result.start (value_rest cs (Unit {0}) h level.room level.least x) (AfterNode cs level.least x) (line_rest cs (Unit {0}) h level.room level.least x) (AfterNode cs level.least x) c.open_below.result
    (value_below cs h level.room level.least x c.requires.block _ _ c.line_at-line.result.column _ (moved s _ _ _ c.line_at-line.ensures.start c.in-Some.ensures.some) line.stuck line.spaces line.all c.requires.inside) c.open_below.ensures.decides

pub returns-then-count-eq0-clause-decides : goal.returns-then-count-eq0-clause-decides
returns-then-count-eq0-clause-decides g c =
    let s = c.args.source.now in
    let cs = text_of s in
    let level = c.args.level.now in
    let h = handles_of level.handles in
    let x = context_of level.context in
    inr (value_gap cs h level.room level.least x c.requires.block (place_of s c.args.at) c.skip_spaces-count.result.0 (place_of s c.skip_spaces-count.result.1) c.in-None.ensures.none c.skip_spaces-count.ensures.spaces c.skip_spaces-count.ensures.furthest c.if-count-eq0.true)

pub returns-then-begins_word-clause-ends : goal.returns-then-begins_word-clause-ends
returns-then-begins_word-clause-ends g c =
    let n = c.in_ok-line-in-None.ensures.ends in
    record { starts = record { line = n.line; onward = omega arith; after = n.after }; onward = omega (arith, c.skip_spaces-count.ensures.onward, n.onward) }

pub returns-then-begins_word-clause-reads : goal.returns-then-begins_word-clause-reads
returns-then-begins_word-clause-reads g c =
    let s = c.args.source.now in
    let cs = text_of s in
    let level = c.args.level.now in
    let h = handles_of level.handles in
    let x = context_of level.context in
    let n = c.in_ok-line-in-None.ensures.reads in
    (n.0, n.1, whole_begins (value_rest cs (Unit {0}) h level.room level.least x) _ _ n.0 (same_value cs (Unit {0}) h level.room level.least x _ _ _ _ n.0 c.requires.block c.skip_spaces-count.ensures.spaces (omega (arith, c.if-count-eq0.false)) n.2))

pub returns-then-begins_word-clause-decides : goal.returns-then-begins_word-clause-decides
returns-then-begins_word-clause-decides g c =
    let s = c.args.source.now in
    let cs = text_of s in
    let level = c.args.level.now in
    let h = handles_of level.handles in
    let x = context_of level.context in
    whole_goes (value_rest cs (Unit {0}) h level.room level.least x) (AfterNode cs level.least x) _ _
    (rest_goes (value_beside cs h level.room level.least x c.requires.block _ c.skip_spaces-count.result.0 _ c.in-None.ensures.none c.skip_spaces-count.ensures.spaces c.skip_spaces-count.ensures.furthest) c.in_ok-line-in-None.ensures.decides)

pub returns-in_err-line-in-None-clause-decides : goal.returns-in_err-line-in-None-clause-decides
returns-in_err-line-in-None-clause-decides g c =
    let s = c.args.source.now in
    let cs = text_of s in
    let level = c.args.level.now in
    let h = handles_of level.handles in
    let x = context_of level.context in
    at_err (DecidesOpened s level c.args.at (value_rest cs (Unit {0}) h level.room level.least x) (AfterNode cs level.least x)) c.from_residual.result _ c.from_residual.ensures.1
    (or_else (rest_refused (value_beside cs h level.room level.least x c.requires.block _ c.skip_spaces-count.result.0 _ c.in-None.ensures.none c.skip_spaces-count.ensures.spaces c.skip_spaces-count.ensures.furthest)) c.in_err-line-in-None.ensures.decides)

pub returns-else-begins_word-clause-ends : goal.returns-else-begins_word-clause-ends
returns-else-begins_word-clause-ends g c = opened_from c.args.source.now c.args.level.now c.args.at c.skip_spaces-count.result.1 c.open_node.result c.skip_spaces-count.ensures.onward c.open_node.ensures.ends

pub returns-else-begins_word-clause-reads : goal.returns-else-begins_word-clause-reads
returns-else-begins_word-clause-reads g c =
    let s = c.args.source.now in
    let cs = text_of s in
    let level = c.args.level.now in
    let h = handles_of level.handles in
    let x = context_of level.context in
    let p = props_of c.none-outer.result in
    let i = place_of s c.skip_spaces-count.result.1 in
    opened_by (node_rest cs (Unit {0}) h level.room level.least x (column_of p None)) (value_rest cs (Unit {0}) h level.room level.least x) s level i (place_of s c.args.at) (holds_of g.K.Keeper.holds) _ _ c.open_node.result
    (λ j es r. same_value cs (Unit {0}) h level.room level.least x _ _ _ _ es c.requires.block c.skip_spaces-count.ensures.spaces (omega (arith, c.if-count-eq0.false))
    (subst (λ o. node_rest cs (Unit {0}) h level.room level.least x o i j es) (column_none p) r)) c.open_node.ensures.reads

pub returns-else-begins_word-clause-decides : goal.returns-else-begins_word-clause-decides
returns-else-begins_word-clause-decides g c =
    let s = c.args.source.now in
    let cs = text_of s in
    let level = c.args.level.now in
    let h = handles_of level.handles in
    let x = context_of level.context in
    let p = props_of c.none-outer.result in
    opened_rest s level c.args.at c.skip_spaces-count.result.1 (value_rest cs (Unit {0}) h level.room level.least x) (AfterNode cs level.least x) (node_rest cs (Unit {0}) h level.room level.least x None) (AfterNode cs level.least x) c.open_node.result
    (value_beside cs h level.room level.least x c.requires.block _ c.skip_spaces-count.result.0 _ c.in-None.ensures.none c.skip_spaces-count.ensures.spaces c.skip_spaces-count.ensures.furthest)
    (subst (λ o. DecidesOpened s level c.skip_spaces-count.result.1 (node_rest cs (Unit {0}) h level.room level.least x o) (AfterNode cs level.least x) c.open_node.result) (column_none p) c.open_node.ensures.decides)
