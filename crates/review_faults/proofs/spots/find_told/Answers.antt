use Rattle.std.proofs.Common.{string_bytes, refl, subst}
use Rattle.review_faults.specs.EventPlaces.{IsPlaceOf}
use Rattle.review_faults.specs.Explained.{AreWords}
use Rattle.review_faults.specs.FaultLines.{IsCause}
use Rattle.review_faults.proofs.spots.find_told.Goals as goal

pub returns-clause-ok : goal.returns-clause-ok
returns-clause-ok c =
    let text = c.unmarked-text.ensures in
    let spot = c.in_ok-spot.spot in
    let words = c.in_ok-words.words in
    let place = c.find_place-place.result in
    record {
      spot = spot;
      known = c.in_ok-spot.ensures.ok;
      at = c.unwrap_or-at.ensures;
      place = subst (λ z. IsPlaceOf z spot.at place) text c.find_place-place.ensures;
      path = refl;
      cause_at = words.cause;
      words = subst (λ z. AreWords z c.args.fault c.unwrap_or-at.result spot.words words.cause (string_bytes words.text)) text c.in_ok-words.ensures.ok;
      cause = subst (λ z. IsCause z place words.cause c.find_cause.result) text c.find_cause.ensures;
      first = refl;
    }
