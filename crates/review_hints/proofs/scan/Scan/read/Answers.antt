use Rattle.review_hints.proofs.scan.Scan.read.Goals as goal

pub returns-in_ok-behind-in-SingleEnd-2 : goal.returns-in_ok-behind-in-SingleEnd-2
returns-in_ok-behind-in-SingleEnd-2 c = record { ok = λ text end before stands scanned. c.in_ok-behind-in-SingleEnd-2.ensures.ok text end (record { flow = scanned.flow; mode = tt }) }

pub returns-in_ok-behind-in-Behind : goal.returns-in_ok-behind-in-Behind
returns-in_ok-behind-in-Behind c = record { ok = λ text end before stands scanned. c.in_ok-behind-in-Behind.ensures.ok text end scanned }
