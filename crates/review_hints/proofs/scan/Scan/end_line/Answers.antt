use Rattle.review_hints.proofs.scan.Scan.end_line.Goals as goal

pub returns : goal.returns
returns c text end scanned =
    let ended = c.end_word.ensures text end scanned in
    record { flow = ended.flow; mode = c.after_line-self.ensures text end ended.mode }
