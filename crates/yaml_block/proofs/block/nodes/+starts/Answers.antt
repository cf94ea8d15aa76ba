use Rattle.std.proofs.Common.{◌≡◌, ℕ, [], Some, None, refl, sym, ap, subst, arith, inr}
use Rattle.yaml_definitions.specs.grammar.Separation.{s-l-comments as s_l_comments}
use Rattle.yaml_definitions.specs.grammar.Events.{e-scalar as empty}
use Rattle.yaml_text.specs.EventModel.{context_of}
use Rattle.yaml_text.specs.Source.{text_of, place_of}
use Rattle.yaml_text.specs.declared.chars.Chars.{Chars}
use Rattle.yaml_mark.specs.HandlesModel.{handles_of}
use Rattle.yaml_sink.specs.PropertyRules.{props_of}
use Rattle.yaml_sink.specs.SinkModel.{holds_of}
use Rattle.yaml_layout.proofs.AnswerLemmas.{puts_none}
use Rattle.yaml_layout.proofs.PropertyDecisions.{or_else}
use Rattle.yaml_layout.proofs.Deciding.{at_err}
use Rattle.yaml_block.specs.BlockRules.{node_rest}
use Rattle.yaml_block.specs.BlockEnds.{AfterNode}
use Rattle.yaml_block.specs.BlockCalls.{DecidesOpened, DecidesOpenedNode, site_rule}
use Rattle.yaml_block.specs.OuterRules.{column_of}
use Rattle.yaml_block.proofs.Opened.{opened_by, opened_rest, whole_begins, whole_goes}
use Rattle.yaml_block.proofs.LineDecisions.{comments_after, dash_here}
use Rattle.yaml_definitions.specs.grammar.Separation.{flow_out, block_key}
use Rattle.yaml_text.proofs.Tests.{on_true_at, on_false_at}
use Rattle.yaml_sink.specs.PropertyRules.{SomeProperties}
use Rattle.yaml_layout.proofs.PropertyLemmas.{own_marks}
use Rattle.yaml_block.specs.OuterRules.{above, Above, properties_left}
use Rattle.yaml_block.proofs.OuterLemmas.{any_column, above_own, fewer_left, marked_column, marked_nothing, marked_sequence}
use Rattle.yaml_block.proofs.Places.{places_up}
use Rattle.yaml_block.proofs.NodeDecisions.{barred, over_above, over_left, over_clash}
use Rattle.yaml_block.proofs.KeyedDecisions.{under_none, under_dash}
use Rattle.yaml_block.proofs.block.nodes.+starts.Goals as goal

-- comments up to where a line starts
moved : (s : Chars) (at start to : ℕ) → to ≡ start → s_l_comments (text_of s) (place_of s at) (place_of s start) → s_l_comments (text_of s) (place_of s at) (place_of s to)
moved s at start to e r = subst (λ x. s_l_comments (text_of s) (place_of s at) (place_of s x)) (sym e) r

pub open_node-open_dressed-requires : goal.open_node-open_dressed-requires
open_node-open_dressed-requires g t c = record { node = c.requires; own = c.in_ok-own.ensures.stand; goes_on = c.in-None.ensures.none }

pub open_node-returns-in_err-own-clause-decides : goal.open_node-returns-in_err-own-clause-decides
open_node-returns-in_err-own-clause-decides g t c =
    let s = c.args.source.now in
    let cs = text_of s in
    let h = handles_of c.args.site.now.level.now.handles in
    let x = context_of c.args.site.now.level.now.context in
    let p = props_of c.args.outer in
    at_err (DecidesOpenedNode s c.args.site.now.level.now c.args.site.now.from (site_rule c.args.site.now c.args.outer)) c.from_residual.result _ c.from_residual.ensures.1
    (or_else (barred cs h c.args.site.now.level.now.room c.args.site.now.level.now.least x c.requires.block c.args.site.now.column _ _ p c.requires.above) c.in_err-own.ensures.barred)

pub open_node-returns-then-overlaps-clause-decides : goal.open_node-returns-then-overlaps-clause-decides
open_node-returns-then-overlaps-clause-decides g t c =
    let s = c.args.source.now in
    let cs = text_of s in
    let h = handles_of c.args.site.now.level.now.handles in
    let q = props_of c.in_ok-own.own in
    let some = c.in-Some.ensures.some in
    inr (over_clash cs h c.args.site.now.level.now.room c.args.site.now.level.now.least (context_of c.args.site.now.level.now.context) c.requires.block c.args.site.now.column _ _ (props_of c.args.outer) _ _ q (places_up s _ _ c.requires.border c.in_ok-own.ensures.stand.border c.in_ok-own.ensures.stand.onward)
    (own_marks cs h 0 block_key _ _ q c.in_ok-own.ensures.stand.own some) c.in_ok-own.ensures.stand.all c.in-Some.ensures.comments c.requires.above (on_true_at c.overlaps.result c.if-overlaps.true c.overlaps.ensures.yes))

pub open_node-open_under-requires : goal.open_node-open_under-requires
open_node-open_under-requires g t c =
    let s = c.args.source.now in
    let cs = text_of s in
    let h = handles_of c.args.site.now.level.now.handles in
    let some = c.in-Some.ensures.some in
    let apart = on_false_at c.overlaps.result c.if-overlaps.false c.overlaps.ensures.no in
    let fewer = fewer_left (props_of c.args.outer) (props_of c.in_ok-own.own) apart some in
    let marks = above_own cs h c.args.site.now.level.now.least c.args.site.now.column _ _ _ (props_of c.args.outer) (props_of c.in_ok-own.own) c.requires.above
    (own_marks cs h 0 block_key _ _ (props_of c.in_ok-own.own) c.in_ok-own.ensures.stand.own some) apart in
    let comments = moved s _ _ _ c.line_at-line.ensures.start c.in-Some.ensures.comments in λ κs l. (
      omega (arith, fewer, ap properties_left c.and.ensures),
      (
        l.0,
        (
          l.1,
          record {
            line = c.line_at-line.ensures.line;
            border = c.requires.start;
            low = c.requires.low;
            order = omega (arith, c.requires.order, c.in_ok-own.ensures.stand.onward, c.in-Some.ensures.onward, c.line_at-line.ensures.start);
            block = c.requires.block;
            marks = subst (SomeProperties cs h c.args.site.now.level.now.least flow_out (place_of s c.args.site.now.from) (place_of s c.in_ok-own.end)) (sym c.and.ensures) marks;
            comments = comments;
            after = comments_after cs _ _ comments;
            above = subst (Above cs h c.args.site.now.level.now.least (place_of s c.args.site.now.from) (place_of s c.in_ok-own.end)) (sym c.and.ensures)
                (over_above cs h c.args.site.now.level.now.room c.args.site.now.level.now.least (context_of c.args.site.now.level.now.context) c.requires.block c.args.site.now.column _ _ (props_of c.args.outer) _ _ (props_of c.in_ok-own.own)
                (places_up s _ _ c.requires.border c.in_ok-own.ensures.stand.border c.in_ok-own.ensures.stand.onward) (own_marks cs h 0 block_key _ _ (props_of c.in_ok-own.own) c.in_ok-own.ensures.stand.own some) c.in_ok-own.ensures.stand.all
                c.in-Some.ensures.comments c.requires.above apart);
          },
        ),
      ),
    )

pub open_node-returns-else-overlaps-clause-reads : goal.open_node-returns-else-overlaps-clause-reads
open_node-returns-else-overlaps-clause-reads g t c =
    let s = c.args.source.now in
    let site = c.args.site.now in
    let level = site.level.now in
    let h = handles_of level.handles in
    let x = context_of level.context in
    let o = column_of (props_of c.args.outer) site.column in
    opened_by (node_rest (text_of s) (Unit {0}) h level.room level.least x None) (node_rest (text_of s) (Unit {0}) h level.room level.least x o) s level (place_of s site.from) (place_of s site.from) (holds_of g.K.Keeper.holds) _ _ c.open_under.result
    (λ j es r. any_column (text_of s) (Unit {0}) h level.room level.least x o _ _ es r) c.open_under.ensures.reads

pub open_node-returns-else-overlaps-clause-decides : goal.open_node-returns-else-overlaps-clause-decides
open_node-returns-else-overlaps-clause-decides g t c =
    let s = c.args.source.now in
    let cs = text_of s in
    let h = handles_of c.args.site.now.level.now.handles in
    let x = context_of c.args.site.now.level.now.context in
    let p = props_of c.args.outer in
    let q = props_of c.in_ok-own.own in
    let some = c.in-Some.ensures.some in
    opened_rest s c.args.site.now.level.now c.args.site.now.from c.args.site.now.from (node_rest cs (Unit {0}) h c.args.site.now.level.now.room c.args.site.now.level.now.least x (column_of p c.args.site.now.column)) (AfterNode cs c.args.site.now.level.now.least x) (node_rest cs (Unit {0}) h c.args.site.now.level.now.room c.args.site.now.level.now.least x None) (AfterNode cs c.args.site.now.level.now.least x) c.open_under.result
    (over_left cs h c.args.site.now.level.now.room c.args.site.now.level.now.least x c.requires.block c.args.site.now.column _ _ p _ _ q (places_up s _ _ c.requires.border c.in_ok-own.ensures.stand.border c.in_ok-own.ensures.stand.onward)
    (own_marks cs h 0 block_key _ _ q c.in_ok-own.ensures.stand.own some) c.in_ok-own.ensures.stand.all c.in-Some.ensures.comments c.requires.above) c.open_under.ensures.decides

pub open_under-open_node-requires : goal.open_under-open_node-requires
open_under-open_node-requires g t c = λ κs l.
    let n = c.in-Node.ensures in (
      omega arith,
      (
        l.0,
        (
          l.1,
          record {
            border = c.requires.line.first;
            start = c.requires.border;
            order = omega (arith, c.requires.order, c.requires.line.wide);
            low = c.requires.low;
            block = c.requires.block;
            column = omega (arith, c.requires.line.wide);
            wide = omega (arith, n.far);
            above = above _ _ c.args.line.column c.requires.marks c.requires.comments c.requires.line.spaces (omega (arith, n.far)) refl c.requires.above c.requires.line.stuck c.requires.line.all n.no_dash n.some n.no_mark;
          },
        ),
      ),
    )

pub open_under-returns-in_ok-push_lone-in-Nothing-clause-ends : goal.open_under-returns-in_ok-push_lone-in-Nothing-clause-ends
open_under-returns-in_ok-push_lone-in-Nothing-clause-ends g t c = record { starts = record { line = c.requires.line; onward = omega arith; after = c.requires.after }; onward = c.requires.order }

pub open_under-returns-in_ok-push_lone-in-Nothing-clause-reads : goal.open_under-returns-in_ok-push_lone-in-Nothing-clause-reads
open_under-returns-in_ok-push_lone-in-Nothing-clause-reads g t c =
    let s = c.args.source.now in
    let cs = text_of s in
    let level = c.args.level.now in
    let h = handles_of level.handles in
    let x = context_of level.context in
    let p = props_of c.args.above.own in
    (empty p, c.in_ok-push_lone-in-Nothing.ensures.ok, whole_begins (node_rest cs (Unit {0}) h level.room level.least x None) _ _ (empty p) (marked_nothing cs (Unit {0}) h level.room level.least x None _ _ _ p _ c.requires.marks c.requires.comments refl))

pub open_under-returns-in_ok-push_lone-in-Nothing-clause-decides : goal.open_under-returns-in_ok-push_lone-in-Nothing-clause-decides
open_under-returns-in_ok-push_lone-in-Nothing-clause-decides g t c =
    let s = c.args.source.now in
    let cs = text_of s in
    let level = c.args.level.now in
    let h = handles_of level.handles in
    let x = context_of level.context in
    let p = props_of c.args.above.own in
    let line = c.requires.line in
    whole_goes (node_rest cs (Unit {0}) h level.room level.least x None) (AfterNode cs level.least x) _ _ (under_none cs h level.room level.least x c.requires.block p _ _ _ c.args.line.column _ c.requires.above c.requires.comments line.stuck line.spaces line.all c.in-Nothing.ensures)

pub open_under-returns-in-Sequence-clause-ends : goal.open_under-returns-in-Sequence-clause-ends
open_under-returns-in-Sequence-clause-ends g t c =
    let line = c.requires.line in
    record { starts = record { border = line.first; dash = c.in-Sequence.ensures.0; low = omega (arith, line.wide) }; onward = omega (arith, c.requires.order, line.wide) }

pub open_under-returns-in-Sequence-clause-reads : goal.open_under-returns-in-Sequence-clause-reads
open_under-returns-in-Sequence-clause-reads g t c =
    let s = c.args.source.now in
    let cs = text_of s in
    let level = c.args.level.now in
    let h = handles_of level.handles in
    let x = context_of level.context in
    let p = props_of c.args.above.own in
    ([], puts_none c.args.out.now, λ j vs v. marked_sequence cs (Unit {0}) h level.room level.least c.args.line.column x None _ _ _ _ _ p vs c.requires.marks c.requires.comments c.in-Sequence.ensures.1 c.requires.line.spaces v)

pub open_under-returns-in-Sequence-clause-decides : goal.open_under-returns-in-Sequence-clause-decides
open_under-returns-in-Sequence-clause-decides g t c =
    let s = c.args.source.now in
    let cs = text_of s in
    let level = c.args.level.now in
    let h = handles_of level.handles in
    let x = context_of level.context in
    let p = props_of c.args.above.own in
    let line = c.requires.line in
    under_dash cs h level.room level.least x c.requires.block p _ _ _ c.args.line.column _ c.requires.above c.requires.comments line.stuck line.spaces line.all (dash_here s _ _ c.in-Sequence.ensures.0) c.in-Sequence.ensures.1

pub open_under-returns-in-Node-clause-reads : goal.open_under-returns-in-Node-clause-reads
open_under-returns-in-Node-clause-reads g t c =
    let s = c.args.source.now in
    let cs = text_of s in
    let level = c.args.level.now in
    let h = handles_of level.handles in
    let x = context_of level.context in
    let p = props_of c.args.above.own in
    let k = c.args.line.column in
    opened_by (node_rest cs (Unit {0}) h level.room level.least x (column_of p (Some k))) (node_rest cs (Unit {0}) h level.room level.least x None) s level (place_of s c.args.above.at) (place_of s c.args.above.at) (holds_of g.K.Keeper.holds) _ _ c.open_node.result
    (λ j es r. subst (λ o. node_rest cs (Unit {0}) h level.room level.least x o (place_of s c.args.above.at) j es) (marked_column cs (Unit {0}) h level.least _ _ p (Some k) c.requires.marks) r) c.open_node.ensures.reads

pub open_under-returns-in-Node-clause-decides : goal.open_under-returns-in-Node-clause-decides
open_under-returns-in-Node-clause-decides g t c =
    let s = c.args.source.now in
    let cs = text_of s in
    let level = c.args.level.now in
    let h = handles_of level.handles in
    let x = context_of level.context in
    let p = props_of c.args.above.own in
    let k = c.args.line.column in
    subst (λ o. DecidesOpened s level c.args.above.at (node_rest cs (Unit {0}) h level.room level.least x o) (AfterNode cs level.least x) c.open_node.result)
    (marked_column cs (Unit {0}) h level.least _ _ p (Some k) c.requires.marks) c.open_node.ensures.decides
