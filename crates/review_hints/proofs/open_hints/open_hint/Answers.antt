use Rattle.review_hints.proofs.open_hints.open_hint.Goals as goal

pub returns-in-Some : goal.returns-in-Some
returns-in-Some c text scanned = c.quote_hint.ensures text (c.in-Some.ensures text _ scanned)

pub returns-then-indent-bracket : goal.returns-then-indent-bracket
returns-then-indent-bracket c text scanned = c.flow_line_hint.ensures text (c.in_ok-bracket.ensures text _ scanned)

pub returns : goal.returns
returns c text scanned = c.flow_hint.ensures text (c.in_ok-bracket.ensures text _ scanned)
