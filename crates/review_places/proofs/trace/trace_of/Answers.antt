use Rattle.review_places.proofs.TraceLaws.{trace-kept}
use Rattle.review_places.proofs.trace.trace_of.Goals as goal

pub returns-in-Kept-clause-ok : goal.returns-in-Kept-clause-ok
returns-in-Kept-clause-ok c =
    let n = c.in_ok-read_into.ensures.ok in
    (n.0, n.2, trace-kept c.new.result c.in-Kept.trace c.read_into.new.out n.0 c.new.ensures c.in-Kept.is n.1)
