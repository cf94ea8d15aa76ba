use Rattle.std.proofs.Common.{sym, ◌∙◌, arith}
use Rattle.yaml_conflicts.proofs.StreamLaws.{other-count, other-at, alike-first, alike-next, alike-whole, counts-length}
use Rattle.yaml_conflicts.proofs.streams.are_alike.Goals as goal

pub returns-then-not-are_long : goal.returns-then-not-are_long
returns-then-not-are_long c = other-count c.args.forests.now c.args.left.now c.args.right.now (sym c.are_long.ensures ∙ c.if-not-are_long.true)

pub loop-place-init : goal.loop-place-init
loop-place-init c = alike-first c.args.forests.now c.args.left.now c.args.right.now

pub returns-then-not-is_alike : goal.returns-then-not-is_alike
returns-then-not-is_alike c =
    other-at c.args.forests.now c.args.left.now c.args.right.now c.loop-place.place c.document-first.result c.document-second.result c.document-first.ensures.is c.document-second.ensures.is (sym c.is_alike.ensures ∙ c.if-not-is_alike.true)

pub loop-place-preserved : goal.loop-place-preserved
loop-place-preserved c =
    alike-next c.args.forests.now c.args.left.now c.args.right.now c.loop-place.place c.document-first.result c.document-second.result c.loop-place.invariant c.document-first.ensures.is c.document-second.ensures.is (sym c.is_alike.ensures ∙ c.if-not-is_alike.false)

pub returns : goal.returns
returns c =
    let e = counts-length c.args.forests.now c.args.left.now c.args.right.now (sym c.are_long.ensures ∙ c.if-not-are_long.false) in
    alike-whole c.args.forests.now c.args.left.now c.args.right.now c.loop-place.place e (omega arith) c.loop-place.invariant
