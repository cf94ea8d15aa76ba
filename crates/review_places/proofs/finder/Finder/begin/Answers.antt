use Rattle.review_places.specs.Seats.{forests_of}
use Rattle.review_places.proofs.SeatLaws.{end-first}
use Rattle.review_places.proofs.finder.Finder.begin.Goals as goal

pub returns-clause-leads : goal.returns-clause-leads
returns-clause-leads c = end-first (forests_of c.args.self.now) c.args.self.now.stream c.args.self.now.layout c.args.step c.in_ok-node.node c.in_ok-node.event c.is_alias.result c.in_ok-node.ensures.root c.is_alias.ensures
