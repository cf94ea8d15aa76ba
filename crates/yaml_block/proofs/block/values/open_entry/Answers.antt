use Rattle.std.proofs.Common.{◌≡◌, ◌+◌, ℕ, [], Some, sym, subst, arith, inl, inr}
use Rattle.yaml_definitions.specs.grammar.Separation.{Ctx, block_in, s-l-comments as s_l_comments}
use Rattle.yaml_text.specs.EventModel.{context_of}
use Rattle.yaml_text.specs.Source.{text_of, place_of}
use Rattle.yaml_text.specs.declared.chars.Chars.{Chars}
use Rattle.yaml_mark.specs.HandlesModel.{handles_of}
use Rattle.law_going_on.specs.GoingOn.{Rest}
use Rattle.law_going_on.proofs.GoingOn.{rest_rest}
use Rattle.yaml_sink.specs.PropertyRules.{props_of}
use Rattle.yaml_sink.specs.SinkModel.{holds_of}
use Rattle.yaml_layout.specs.Lines.{IsBlock}
use Rattle.yaml_layout.proofs.AnswerLemmas.{puts_none}
use Rattle.yaml_block.specs.BlockRules.{node_rest, line_rest, entry_rest, sequence_with}
use Rattle.yaml_block.specs.BlockEnds.{AfterNode, AfterEntry, AfterSequence}
use Rattle.yaml_block.specs.BlockCalls.{DecidesOpened}
use Rattle.yaml_block.specs.OuterRules.{column_of}
use Rattle.yaml_block.proofs.BlockLemmas.{line_entry, sequence_entry, node_entry}
use Rattle.yaml_block.proofs.OuterLemmas.{column_free}
use Rattle.yaml_block.proofs.Opened.{opened_from, opened_by, opened_rest}
use Rattle.yaml_block.proofs.LineDecisions.{comments_after, dash_here}
use Rattle.yaml_block.proofs.ValueDecisions.{value_below, entry_value, entry_dash, entry_own, entry_gap}
use Rattle.yaml_block.proofs.block.values.open_entry.Goals as goal

-- comments up to where a line starts
moved : (s : Chars) (at start to : ℕ) → to ≡ start → s_l_comments (text_of s) (place_of s at) (place_of s start) → s_l_comments (text_of s) (place_of s at) (place_of s to)
moved s at start to e r = subst (λ x. s_l_comments (text_of s) (place_of s at) (place_of s x)) (sym e) r

-- at the level of what stands in an entry
at_level : (P : ℕ → Ctx → Type 0) {m n : ℕ} {x y : Ctx} → m ≡ n → x ≡ y → P n y → P m x
at_level P {m} {n} {x} {y} e f p = subst (λ k. P k x) (sym e) (subst (P n) (sym f) p)

pub open_below-requires : goal.open_below-requires
open_below-requires g c =
    let s = c.args.source.now in
    record {
      line = c.line_at-line.ensures.line;
      low = omega (arith, c.requires.least, c.requires.low, c.in-Some.ensures.onward, c.line_at-line.ensures.start);
      block = subst IsBlock (sym c.requires.block) tt;
      after = comments_after (text_of s) _ _ (moved s _ _ _ c.line_at-line.ensures.start c.in-Some.ensures.some);
    }

pub returns-in-Some-clause-ends : goal.returns-in-Some-clause-ends
returns-in-Some-clause-ends g c = opened_from c.args.source.now c.args.level.now c.args.at c.line_at-line.result.start c.open_below.result (omega (arith, c.in-Some.ensures.onward, c.line_at-line.ensures.start)) c.open_below.ensures.ends

pub returns-in-Some-clause-reads : goal.returns-in-Some-clause-reads
returns-in-Some-clause-reads g c =
    let s = c.args.source.now in
    let cs = text_of s in
    let level = c.args.level.now in
    let h = handles_of level.handles in
    let x = context_of level.context in
    let k = c.args.column in
    let e = c.requires.least in
    let f = c.requires.block in
    opened_by (line_rest cs (Unit {0}) h level.room level.least x) (entry_rest cs (Unit {0}) h level.room k) s level (place_of s c.line_at-line.result.start) (place_of s c.args.at) (holds_of g.K.Keeper.holds) _ _ c.open_below.result
    (λ j es r. line_entry cs (Unit {0}) h level.room k _ _ _ es (moved s _ _ _ c.line_at-line.ensures.start c.in-Some.ensures.some)
    (at_level (λ n y. line_rest cs (Unit {0}) h level.room n y (place_of s c.line_at-line.result.start) j es) (sym e) (sym f) r)) c.open_below.ensures.reads

pub returns-in-Some-clause-decides : goal.returns-in-Some-clause-decides
returns-in-Some-clause-decides g c =
    let s = c.args.source.now in
    let cs = text_of s in
    let level = c.args.level.now in
    let h = handles_of level.handles in
    let x = context_of level.context in
    let k = c.args.column in
    let e = c.requires.least in
    let f = c.requires.block in
    let line = c.line_at-line.ensures.line in
    let over = moved s _ _ _ c.line_at-line.ensures.start c.in-Some.ensures.some in
    opened_rest s level c.args.at c.line_at-line.result.start (entry_rest cs (Unit {0}) h level.room k) (AfterEntry cs k) (line_rest cs (Unit {0}) h level.room level.least x) (AfterNode cs level.least x) c.open_below.result
    (at_level (λ n y. Rest (entry_rest cs (Unit {0}) h level.room k) (AfterEntry cs k) (place_of s c.args.at) (line_rest cs (Unit {0}) h level.room n y) (AfterNode cs n y) (place_of s c.line_at-line.result.start)) e f
    (rest_rest (entry_value cs h level.room k _ _ c.requires.inside over) (value_below cs h level.room (k + 1) block_in tt _ _ c.line_at-line.result.column _ over line.stuck line.spaces line.all (inl c.requires.inside)))) c.open_below.ensures.decides

pub returns-then-count-eq0-clause-decides : goal.returns-then-count-eq0-clause-decides
returns-then-count-eq0-clause-decides g c =
    let s = c.args.source.now in
    let cs = text_of s in
    let level = c.args.level.now in
    let h = handles_of level.handles in
    let x = context_of level.context in
    inr (entry_gap cs h level.room c.args.column _ c.skip_spaces-count.result.0 _ c.in-None.ensures.none c.skip_spaces-count.ensures.spaces c.skip_spaces-count.ensures.furthest c.if-count-eq0.true)

pub returns-in-Some-dash-clause-ends : goal.returns-in-Some-dash-clause-ends
returns-in-Some-dash-clause-ends g c =
    record { starts = record { border = c.skip_spaces-count.ensures.border; dash = c.in-Some-dash.ensures.some; low = omega (arith, c.requires.low, c.skip_spaces-count.ensures.onward) }; onward = c.skip_spaces-count.ensures.onward }

pub returns-in-Some-dash-clause-reads : goal.returns-in-Some-dash-clause-reads
returns-in-Some-dash-clause-reads g c =
    let s = c.args.source.now in
    let cs = text_of s in
    let level = c.args.level.now in
    let h = handles_of level.handles in
    let x = context_of level.context in
    let k = c.args.column in
    let e = c.requires.least in
    let f = c.requires.block in
    let n = c.skip_spaces-count.result.0 in
    let i = place_of s c.skip_spaces-count.result.1 in
    ([], puts_none c.args.out.now, λ j vs v. sequence_entry cs (Unit {0}) h level.room k _ _ _ _ vs c.skip_spaces-count.ensures.spaces (omega (arith, c.if-count-eq0.false)) (subst (λ p. sequence_with cs (Unit {0}) h p level.room (k + 1 + n) i j vs) c.none-outer.ensures v))

pub returns-in-Some-dash-clause-decides : goal.returns-in-Some-dash-clause-decides
returns-in-Some-dash-clause-decides g c =
    let s = c.args.source.now in
    let cs = text_of s in
    let level = c.args.level.now in
    let h = handles_of level.handles in
    let x = context_of level.context in
    let k = c.args.column in
    let e = c.requires.least in
    let f = c.requires.block in
    let n = c.skip_spaces-count.result.0 in
    let i = place_of s c.skip_spaces-count.result.1 in
    subst (λ p. Rest (entry_rest cs (Unit {0}) h level.room k) (AfterEntry cs k) (place_of s c.args.at) (sequence_with cs (Unit {0}) h p level.room (k + 1 + n)) (AfterSequence cs (k + 1 + n)) i) (sym c.none-outer.ensures)
    (entry_dash cs h level.room k _ n _ c.in-None.ensures.none c.skip_spaces-count.ensures.spaces c.skip_spaces-count.ensures.furthest (dash_here s _ _ c.in-Some-dash.ensures.some))

pub returns-in-None-dash-clause-ends : goal.returns-in-None-dash-clause-ends
returns-in-None-dash-clause-ends g c = opened_from c.args.source.now c.args.level.now c.args.at c.skip_spaces-count.result.1 c.open_node.result c.skip_spaces-count.ensures.onward c.open_node.ensures.ends

pub returns-in-None-dash-clause-reads : goal.returns-in-None-dash-clause-reads
returns-in-None-dash-clause-reads g c =
    let s = c.args.source.now in
    let cs = text_of s in
    let level = c.args.level.now in
    let h = handles_of level.handles in
    let x = context_of level.context in
    let k = c.args.column in
    let e = c.requires.least in
    let f = c.requires.block in
    let n = c.skip_spaces-count.result.0 in
    let i = place_of s c.skip_spaces-count.result.1 in
    let p = props_of c.none-outer.result in
    opened_by (node_rest cs (Unit {0}) h level.room level.least x (column_of p (Some (k + 1 + n)))) (entry_rest cs (Unit {0}) h level.room k) s level i (place_of s c.args.at) (holds_of g.K.Keeper.holds) _ _ c.open_node.result
    (λ j es r. node_entry cs (Unit {0}) h level.room k _ _ _ _ es c.skip_spaces-count.ensures.spaces (omega (arith, c.if-count-eq0.false))
    (subst (λ o. node_rest cs (Unit {0}) h level.room (k + 1) block_in o i j es) (column_free p (Some (k + 1 + n)) c.none-outer.ensures)
    (at_level (λ m y. node_rest cs (Unit {0}) h level.room m y (column_of p (Some (k + 1 + n))) i j es) (sym e) (sym f) r))) c.open_node.ensures.reads

pub returns-in-None-dash-clause-decides : goal.returns-in-None-dash-clause-decides
returns-in-None-dash-clause-decides g c =
    let s = c.args.source.now in
    let cs = text_of s in
    let level = c.args.level.now in
    let h = handles_of level.handles in
    let x = context_of level.context in
    let k = c.args.column in
    let e = c.requires.least in
    let f = c.requires.block in
    let n = c.skip_spaces-count.result.0 in
    let p = props_of c.none-outer.result in
    opened_rest s level c.args.at c.skip_spaces-count.result.1 (entry_rest cs (Unit {0}) h level.room k) (AfterEntry cs k) (node_rest cs (Unit {0}) h level.room level.least x (Some (k + 1 + n))) (AfterNode cs level.least x) c.open_node.result
    (at_level (λ m y. Rest (entry_rest cs (Unit {0}) h level.room k) (AfterEntry cs k) (place_of s c.args.at) (node_rest cs (Unit {0}) h level.room m y (Some (k + 1 + n))) (AfterNode cs m y) (place_of s c.skip_spaces-count.result.1)) e f
    (entry_own cs h level.room k _ n _ c.in-None.ensures.none c.skip_spaces-count.ensures.spaces c.skip_spaces-count.ensures.furthest c.in-None-dash.ensures.none))
    (subst (λ o. DecidesOpened s level c.skip_spaces-count.result.1 (node_rest cs (Unit {0}) h level.room level.least x o) (AfterNode cs level.least x) c.open_node.result) (column_free p (Some (k + 1 + n)) c.none-outer.ensures) c.open_node.ensures.decides)
