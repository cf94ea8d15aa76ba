use Rattle.review_hints.proofs.scan.Scan.take.Goals as goal

pub returns : goal.returns
returns c = record { ok = λ text end before stands scanned. c.read.ensures.ok text end before stands (c.end_at.ensures text end scanned) }
