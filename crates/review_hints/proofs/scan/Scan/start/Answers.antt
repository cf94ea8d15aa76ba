use Rattle.review_hints.proofs.scan.Scan.start.Goals as goal

pub returns : goal.returns
returns c = record { ok = λ text end before stands scanned. c.open.ensures.ok text end before stands (c.begin.ensures text end scanned) }
