use Rattle.std.proofs.Common.{sym, subst, ℕ}
use Rattle.std.specs.Prelude.{IfNone}
use Rattle.yaml_tree.specs.declared.node.NodeId.{NodeId}
use Rattle.review_places.specs.Seats.{forests_of, LeadsDown}
use Rattle.review_places.proofs.SeatLaws.{item-none}
use Rattle.review_places.proofs.finder.Finder.step_down.Goals as goal

pub returns-in-Sequence-Item-clause-none : goal.returns-in-Sequence-Item-clause-none
returns-in-Sequence-Item-clause-none c =
    let f = forests_of c.args.self.now in
    let side = c.args.self.now.stream.side in
    subst (λ z. IfNone c.item_at.result ((part : NodeId) (number : ℕ) → LeadsDown f side z c.args.node part number → ⊥)) (sym c.in-Sequence-Item.is-1)
    (item-none f side c.in-Sequence-Item.places c.args.node c.in-Some.shown c.in-Sequence-Item.items c.place.result c.item_at.result c.in-Some.ensures c.in-Sequence-Item.is-0 c.place.ensures c.item_at.ensures.none)
