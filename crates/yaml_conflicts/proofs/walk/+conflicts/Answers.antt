use Rattle.std.proofs.Common.{◌<◌, length, get_or, sym, ◌∙◌, subst, arith}
use Rattle.std.proofs.lemmas.Option.{slice_get-get_or}
use Rattle.yaml_tree.specs.declared.node.NodeId.{NodeId}
use Rattle.yaml_diff.specs.Found.{AllWithin}
use Rattle.yaml_conflicts.specs.Keys.{Covers}
use Rattle.yaml_conflicts.proofs.WalkLaws.{settled-found, cut-found, none-spends, cut-spends, one-found, one-spends, walked-first, walked-next, walked-done, spends-some, total-less, parts-within}
use Rattle.yaml_conflicts.proofs.walk.+conflicts.Goals as goal

pub returns-then-is_settled-clause-ok : goal.returns-then-is_settled-clause-ok
returns-then-is_settled-clause-ok t c = settled-found c.args.forests.now c.args.given c.args.sides c.none.result c.none.ensures.list (sym c.is_settled.ensures ∙ c.if-is_settled.true)

pub returns-then-is_settled-clause-room : goal.returns-then-is_settled-clause-room
returns-then-is_settled-clause-room t c = none-spends c.args.room c.none.result c.none.ensures.room c.none.ensures.whole

pub returns-then-is_spent-clause-ok : goal.returns-then-is_spent-clause-ok
returns-then-is_spent-clause-ok t c = cut-found c.args.forests.now c.args.given c.args.sides c.none-then-is_spent.result c.none-then-is_spent.ensures.list c.none-then-is_spent.ensures.whole

pub returns-then-is_spent-clause-room : goal.returns-then-is_spent-clause-room
returns-then-is_spent-clause-room t c = cut-spends c.args.room c.none-then-is_spent.result c.none-then-is_spent.ensures.room (sym c.is_spent.ensures ∙ c.if-is_spent.true)

pub returns-then-not-is_open-clause-ok : goal.returns-then-not-is_open-clause-ok
returns-then-not-is_open-clause-ok t c = one-found c.args.forests.now c.args.given c.args.sides c.one.result c.one.ensures.list (sym c.is_settled.ensures ∙ c.if-is_settled.false) (sym c.is_open.ensures ∙ c.if-not-is_open.true)

pub returns-then-not-is_open-clause-room : goal.returns-then-not-is_open-clause-room
returns-then-not-is_open-clause-room t c = one-spends c.args.room c.one.result c.one.ensures.whole (sym c.is_spent.ensures ∙ c.if-is_spent.false)

pub loop-key-init : goal.loop-key-init
loop-key-init t c = walked-first c.args.forests.now c.args.given c.args.sides _ c.none-found.result c.none-found.ensures.list c.none-found.ensures.whole

pub values_at-values-requires-clause-key : goal.values_at-values-requires-clause-key
values_at-values-requires-clause-key t c =
    let xs = c.deref-key-items.result.now in
    let at = c.loop-key.key-index in
    let d : NodeId = record { 0 = 0 } in
    let l : at < length xs = omega arith in
    let w = subst (AllWithin c.args.forests.now) (sym c.deref-key-items.ensures.value) c.in_ok-keys.ensures.within in
    w at (get_or xs at d) (slice_get-get_or xs at d l)

pub conflicts-requires : goal.conflicts-requires
conflicts-requires t c =
    let g = c.args.forests.now in
    let s = c.args.sides in
    let values = c.values_at-values.result in
    let b = c.values_at-values.ensures.below in
    let a = total-less g s values (sym c.is_open.ensures ∙ c.if-not-is_open.false) b in
    (omega (arith, a), parts-within g s values b c.requires.within)

pub loop-key-preserved : goal.loop-key-preserved
loop-key-preserved t c =
    let xs = c.deref-key-items.result.now in
    let at = c.loop-key.key-index in
    let d : NodeId = record { 0 = 0 } in
    let l : at < length xs = omega arith in
    let a = c.in_ok-add.ensures in
    walked-next c.args.forests.now c.args.given c.args.sides c.values_at-values.result xs at (get_or xs at d) c.loop-key.found c.in_ok-more.more c.add.new.found (sym c.is_settled.ensures ∙ c.if-is_settled.false) (sym c.is_open.ensures ∙ c.if-not-is_open.false) (slice_get-get_or xs at d l) c.loop-key.invariant c.values_at-values.ensures.values c.in_ok-more.ensures.ok c.in_ok-more.ensures.room a.list a.room a.whole

pub returns-clause-ok : goal.returns-clause-ok
returns-clause-ok t c =
    let g = c.args.forests.now in
    let s = c.args.sides in
    let xs = c.deref-key-items.result.now in
    let k = subst (Covers g s) (sym c.deref-key-items.ensures.value) c.in_ok-keys.ensures.covers in
    walked-done g c.args.given s xs c.loop-key.key-index c.loop-key.found (sym c.is_open.ensures ∙ c.if-not-is_open.false) (omega arith) k c.loop-key.invariant

pub returns-clause-room : goal.returns-clause-room
returns-clause-room t c = spends-some c.args.room c.loop-key.found (sym c.is_spent.ensures ∙ c.if-is_spent.false) c.loop-key.invariant.cut
