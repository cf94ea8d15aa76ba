use Rattle.std.specs.Prelude.{slice_get}
use Rattle.std.proofs.Common.{refl, ◌∙◌, ap}
use Rattle.review_places.specs.Layout.{offsets_of}
use Rattle.review_places.specs.Seats.{forests_of}
use Rattle.review_places.proofs.SeatLaws.{leads-one, if_none}
use Rattle.review_places.proofs.finder.Finder.seat.Goals as goal

pub returns-clause-none : goal.returns-clause-none
returns-clause-none c =
    let f = forests_of c.args.self.now in
    let stream = c.args.self.now.stream in
    let layout = c.args.self.now.layout in
    let end = c.in_ok-end.end in
    let path = c.args.path.now in
    let i = c.in_ok-end.ensures.leads in
    if_none c.seat_of.result c.seat_of.ensures.none
    (λ none node event own l.
    let o = leads-one f stream layout c.laws.ensures path path node end.0 event end.1 own i.own refl l i.leads in
    ap (slice_get (offsets_of layout)) o.1 ∙ none)
