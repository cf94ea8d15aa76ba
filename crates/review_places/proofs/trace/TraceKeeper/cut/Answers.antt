use Rattle.review_places.proofs.TraceLaws.{traced_cut}
use Rattle.review_places.proofs.trace.TraceKeeper.cut.Goals as goal

pub returns : goal.returns
returns c = traced_cut c.args.self.now c.shorten.new.self c.args.start c.shorten.ensures
