use Rattle.std.proofs.Common.{◌≡◌}
use Rattle.review_places.proofs.trace.Trace.forget.Given as goal

abbrev pub invariant-loop : goal.invariant-loop
invariant-loop l = l.self.events ≡ l.fn.self.events
