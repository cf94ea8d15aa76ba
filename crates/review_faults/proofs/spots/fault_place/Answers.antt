use Rattle.std.proofs.Common.{subst}
use Rattle.review_faults.specs.EventPlaces.{IsPlaceOf}
use Rattle.review_faults.proofs.spots.fault_place.Goals as goal

pub returns-clause-ok : goal.returns-clause-ok
returns-clause-ok c =
    let spot = c.in_ok-spot.spot in
    (spot, c.in_ok-spot.ensures.ok, subst (λ z. IsPlaceOf z spot.at c.find_place.result) c.unmarked.ensures c.find_place.ensures)
