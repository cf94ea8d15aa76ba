use Rattle.std.proofs.Common.{arith, inr, subst}
use Rattle.yaml_text.specs.EventModel.{context_of}
use Rattle.yaml_text.specs.Source.{text_of, place_of}
use Rattle.yaml_text.proofs.Tests.{on_true_at, on_false_at}
use Rattle.yaml_mark.specs.HandlesModel.{handles_of}
use Rattle.yaml_sink.specs.PropertyRules.{props_of}
use Rattle.yaml_layout.proofs.PropertyDecisions.{or_else}
use Rattle.yaml_layout.proofs.Deciding.{at_err}
use Rattle.yaml_block.specs.BlockRules.{block_scalar_rest, node_rest}
use Rattle.yaml_block.specs.BlockEnds.{AfterNode}
use Rattle.yaml_block.specs.BlockCalls.{DecidesOpenedNode, site_rule}
use Rattle.yaml_block.specs.OuterRules.{column_of}
use Rattle.yaml_block.proofs.OuterLemmas.{follows_before, block_scalar}
use Rattle.yaml_block.proofs.Opened.{whole_begins, whole_goes}
use Rattle.yaml_block.proofs.Passing.{sign_of, scalar_done, scalar_none}
use Rattle.yaml_block.proofs.NodeDecisions.{signed, signed_clash}
use Rattle.yaml_block.proofs.block.nodes.open_dressed.Goals as goal

pub returns-in_ok-line-in-Some-clause-reads : goal.returns-in_ok-line-in-Some-clause-reads
returns-in_ok-line-in-Some-clause-reads g c =
    let s = c.args.source.now in
    let cs = text_of s in
    let h = handles_of c.args.site.now.level.now.handles in
    let n = c.in_ok-line-in-Some.ensures.reads in
    let p = props_of c.args.outer in
    let q = props_of c.args.head.own in
    let apart = on_false_at c.overlaps.result c.if-overlaps.false c.overlaps.ensures.no in (
      n.0,
      n.1,
      whole_begins (node_rest cs (Unit {0}) h c.args.site.now.level.now.room c.args.site.now.level.now.least (context_of c.args.site.now.level.now.context) (column_of p c.args.site.now.column)) _ _ n.0
          (block_scalar cs (Unit {0}) h c.args.site.now.level.now.room c.args.site.now.level.now.least (context_of c.args.site.now.level.now.context) c.args.site.now.column (column_of p c.args.site.now.column) _ _ _ _ p q n.0 c.requires.node.above
          (follows_before cs h _ _ _ q c.requires.own.own c.in-Some.ensures.sign.follows) apart
          (subst (λ x. block_scalar_rest cs x c.args.site.now.level.now.least (place_of s c.in-Some.sign.at) (place_of s c.in_ok-line-in-Some.line.start) n.0) c.and-both.ensures n.2)),
    )

pub returns-then-overlaps-clause-decides : goal.returns-then-overlaps-clause-decides
returns-then-overlaps-clause-decides g c =
    let s = c.args.source.now in
    let cs = text_of s in
    inr (signed_clash cs (handles_of c.args.site.now.level.now.handles) c.args.site.now.level.now.room c.args.site.now.level.now.least (context_of c.args.site.now.level.now.context) c.requires.node.block c.args.site.now.column _ _ (props_of c.args.outer) _ (props_of c.args.head.own) c.requires.own.all c.requires.goes_on c.requires.own.own _
    c.requires.node.above c.in-Some.ensures.sign.follows (sign_of cs _ _ c.in-Some.ensures.sign.sign) (on_true_at c.overlaps.result c.if-overlaps.true c.overlaps.ensures.yes))

pub returns-in_err-line-in-Some-clause-decides : goal.returns-in_err-line-in-Some-clause-decides
returns-in_err-line-in-Some-clause-decides g c =
    let s = c.args.source.now in
    let cs = text_of s in
    let h = handles_of c.args.site.now.level.now.handles in
    let x = context_of c.args.site.now.level.now.context in
    let p = props_of c.args.outer in
    let apart = on_false_at c.overlaps.result c.if-overlaps.false c.overlaps.ensures.no in
    let properties_left = signed cs h c.args.site.now.level.now.room c.args.site.now.level.now.least x c.requires.node.block c.args.site.now.column _ _ p _ (props_of c.args.head.own) c.requires.own.all c.requires.goes_on c.requires.own.own _ c.requires.node.above c.in-Some.ensures.sign.follows (sign_of cs _ _ c.in-Some.ensures.sign.sign) apart in
    at_err (DecidesOpenedNode s c.args.site.now.level.now c.args.site.now.from (site_rule c.args.site.now c.args.outer)) c.from_residual.result _ c.from_residual.ensures.1
    (or_else (scalar_none cs c.args.site.now.level.now.least x _ _ _ properties_left.0 (props_of c.and-both.result) properties_left.1) c.in_err-line-in-Some.ensures.decides)

pub returns-in_ok-line-in-Some-clause-decides : goal.returns-in_ok-line-in-Some-clause-decides
returns-in_ok-line-in-Some-clause-decides g c =
    let s = c.args.source.now in
    let cs = text_of s in
    let h = handles_of c.args.site.now.level.now.handles in
    let x = context_of c.args.site.now.level.now.context in
    let p = props_of c.args.outer in
    let apart = on_false_at c.overlaps.result c.if-overlaps.false c.overlaps.ensures.no in
    let properties_left = signed cs h c.args.site.now.level.now.room c.args.site.now.level.now.least x c.requires.node.block c.args.site.now.column _ _ p _ (props_of c.args.head.own) c.requires.own.all c.requires.goes_on c.requires.own.own _ c.requires.node.above c.in-Some.ensures.sign.follows (sign_of cs _ _ c.in-Some.ensures.sign.sign) apart in
    whole_goes (node_rest cs (Unit {0}) h c.args.site.now.level.now.room c.args.site.now.level.now.least x (column_of p c.args.site.now.column)) (AfterNode cs c.args.site.now.level.now.least x) _ _
    (scalar_done cs c.args.site.now.level.now.least x _ _ _ properties_left.0 (props_of c.and-both.result) properties_left.1 _ c.in_ok-line-in-Some.ensures.decides)

pub returns-in_ok-line-in-Some-clause-ends : goal.returns-in_ok-line-in-Some-clause-ends
returns-in_ok-line-in-Some-clause-ends g c =
    let n = c.in_ok-line-in-Some.ensures.ends in
    record { starts = record { line = n.line; onward = omega arith; after = n.after }; onward = omega (arith, c.requires.node.order, c.in-Some.ensures.sign.onward, n.onward) }
