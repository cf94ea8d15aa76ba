use Rattle.review_hints.proofs.scan.Scan.plain.Goals as goal

pub returns-in_ok-behind-in-93 : goal.returns-in_ok-behind-in-93
returns-in_ok-behind-in-93 c = record { ok = λ text end before stands scanned. c.in_ok-behind-in-93.ensures.ok text end scanned }
