use Rattle.std.proofs.Common.{refl, arith}
use Rattle.review_lines.proofs.SideLaws.{nodes_within, one_high, high_next, none_high}
use Rattle.review_lines.proofs.search.has_high.Goals as goal

pub height-requires : goal.height-requires
height-requires c = nodes_within c.args.forests.now c.args.stream c.documents-roots.result.now c.documents-roots.ensures c.laws.ensures c.loop-root.root-index (record { 0 = 0 }) c.loop-root-test.true

pub loop-root-init : goal.loop-root-init
loop-root-init c = refl

pub returns-then-height-gt-LOW : goal.returns-then-height-gt-LOW
returns-then-height-gt-LOW c =
    one_high c.args.forests.now c.args.stream c.documents-roots.result.now c.documents-roots.ensures c.loop-root.root-index (record { 0 = 0 }) c.loop-root-test.true (omega (arith, c.height.ensures, c.if-height-gt-LOW.true))

pub loop-root-preserved : goal.loop-root-preserved
loop-root-preserved c =
    high_next c.args.forests.now c.args.stream c.documents-roots.result.now c.documents-roots.ensures c.loop-root.root-index (record { 0 = 0 }) c.loop-root-test.true c.loop-root.invariant (omega (arith, c.height.ensures, c.if-height-gt-LOW.false))

pub returns : goal.returns
returns c = none_high c.args.forests.now c.args.stream c.documents-roots.result.now c.documents-roots.ensures c.loop-root.root-index (omega (arith, c.loop-root-test.false)) c.loop-root.invariant
