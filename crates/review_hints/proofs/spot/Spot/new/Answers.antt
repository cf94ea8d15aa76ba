use Rattle.review_hints.proofs.ScanLaws.{scanned_in}
use Rattle.review_hints.proofs.spot.Spot.new.Goals as goal

pub returns-clause-scan : goal.returns-clause-scan
returns-clause-scan c = scanned_in c.args.text.now c.front-before.result.now c.args.at c.front-before.ensures c.in_ok-of.field-0 c.in_ok-of.ensures.ok
