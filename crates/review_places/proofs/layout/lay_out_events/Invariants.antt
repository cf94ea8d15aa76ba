use Rattle.std.proofs.Common.{◌≡◌}
use Rattle.review_places.specs.Trace.{shapes_in, offsets_in}
use Rattle.review_places.specs.Layout.{Stands, offsets_of}
use Rattle.review_places.proofs.layout.lay_out_events.Given as goal

abbrev pub invariant-events : goal.invariant-events
invariant-events l = record {
  offsets : offsets_of l.layout ≡ offsets_in l.events;
  stands : Stands (shapes_in l.events) l.at l.layout l.around;
}
