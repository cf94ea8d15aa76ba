use Rattle.std.proofs.Common.{sym}
use Rattle.review_places.specs.Seats.{forests_of}
use Rattle.review_places.proofs.SeatLaws.{no-event}
use Rattle.review_places.proofs.finder.Finder.further.Goals as goal

pub returns-in-None-clause-none : goal.returns-in-None-clause-none
returns-in-None-clause-none c =
    no-event (forests_of c.args.self.now) c.args.self.now.stream c.args.self.now.layout c.laws.ensures c.args.step c.args.node c.in_ok-part.part.0 c.args.event c.in_ok-part.part.1 c.in_ok-part.ensures.down (sym c.in-None.ensures)
