use Rattle.std.proofs.Common.{◌<◌, arith, sym, ◌∙◌}
use Rattle.yaml_spell.specs.RankedNodes.{pair_of}
use Rattle.yaml_spell.proofs.ShownLaws.{item-in}
use Rattle.yaml_spell.proofs.WalkLaws.{drop_item}
use Rattle.yaml_show.proofs.SharingLaws.{room_next, room_stops, room_end}
use Rattle.yaml_show.proofs.sharing_keys.all_have_room.Goals as goal

pub has_room-requires-clause-within : goal.has_room-requires-clause-within
has_room-requires-clause-within g c =
    let N = g.V.RankedNodes.number in
    (item-in (λ p. (N p.0 < g.V.RankedNodes.count c.args.view.now) × (N p.1 < g.V.RankedNodes.count c.args.view.now)) c.args.entries.now c.loop-entry.entry-index c.entry-item.result c.requires.within (omega arith) c.entry-item.is).0

pub loop-entry-preserved : goal.loop-entry-preserved
loop-entry-preserved g c =
    let xs = c.args.entries.now in
    let i = c.loop-entry.entry-index in
    room_next (pair_of g.V.RankedNodes.tree g.V.RankedNodes.number c.args.view.now) xs i c.entry-item.result _ (drop_item xs i c.entry-item.result (omega arith) c.entry-item.is) c.loop-entry.invariant (sym c.in_ok-has_room.ensures.ok ∙ c.if-not-branch.false)

pub returns-then-not-branch-clause-ok : goal.returns-then-not-branch-clause-ok
returns-then-not-branch-clause-ok g c =
    let xs = c.args.entries.now in
    let i = c.loop-entry.entry-index in
    room_stops (pair_of g.V.RankedNodes.tree g.V.RankedNodes.number c.args.view.now) xs i c.entry-item.result _ (drop_item xs i c.entry-item.result (omega arith) c.entry-item.is) c.loop-entry.invariant (sym c.in_ok-has_room.ensures.ok ∙ c.if-not-branch.true)

pub returns-clause-ok : goal.returns-clause-ok
returns-clause-ok g c = room_end (pair_of g.V.RankedNodes.tree g.V.RankedNodes.number c.args.view.now) c.args.entries.now c.loop-entry.entry-index _ (omega arith) c.loop-entry.invariant
