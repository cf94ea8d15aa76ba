use Rattle.std.proofs.Common.{map, ap, refl, sym, subst}
use Rattle.std.specs.List.{All}
use Rattle.review_places.specs.Told.{IsTold}
use Rattle.review_merge.specs.Placed.{IsLaid}
use Rattle.review_merge.proofs.SeatLaws.{seats_are}
use Rattle.review_merge.proofs.seats.seats_of.Goals as goal

pub returns : goal.returns
returns c =
    let bytes = c.args.bytes.now in
    let new = c.new-finder.ensures in
    let offsets = c.in_ok-offsets.offsets.items in
    let list = c.in_ok-places.field-0.items in
    seats_are c.args.forests.now (map (λ path. path.items) c.args.paths.now) c.args.roots.now bytes c.new-finder.result offsets list
    (record { forests = new.forests; left = ap (λ s. s.side) new.stream; roots = ap (λ s. s.roots.now) new.stream; bytes = refl; laid = subst (IsLaid bytes) (sym new.layout) c.in_ok-layout.ensures }) c.in_ok-offsets.ensures
    (subst (λ z. All (IsTold z offsets) list) c.unmarked.ensures c.in_ok-places.ensures.ok) c.in_ok-places.ensures.numbers
