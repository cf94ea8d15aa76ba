use Rattle.std.proofs.Common.{map}
use Rattle.review_merge.proofs.SeatLaws.{OffsetsTo}
use Rattle.review_merge.proofs.seats.offsets_of.Given as goal

abbrev pub invariant-paths : goal.invariant-paths
invariant-paths l = OffsetsTo l.finder (map (λ path. path.items) l.paths) l.number l.offsets.items
