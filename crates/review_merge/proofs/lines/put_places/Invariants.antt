use Rattle.std.proofs.Common.{drop}
use Rattle.std.specs.String.{string_bytes}
use Rattle.review_merge.specs.Lines.{column, place_text}
use Rattle.review_merge.specs.Placed.{IsTold}
use Rattle.review_merge.proofs.LineLaws.{GoesOn}
use Rattle.review_merge.proofs.lines.put_places.Given as goal

abbrev pub invariant-seats : goal.invariant-seats
invariant-seats l = GoesOn (λ seats place. IsTold seats.places.items l.number place) (λ place. column (place_text place)) l.seats (string_bytes l.fn.out) (drop l.side-index l.seats) (string_bytes l.out)
