use Rattle.review_hints.proofs.hints.hint_of.Goals as goal

pub returns-in-Some : goal.returns-in-Some
returns-in-Some c text above scanned = c.in-Some.ensures text above

pub returns-in-Some-line_hint : goal.returns-in-Some-line_hint
returns-in-Some-line_hint c text above scanned = c.in-Some-line_hint.ensures text above

pub returns-in-Some-open_hint : goal.returns-in-Some-open_hint
returns-in-Some-open_hint c text above scanned = c.in-Some-open_hint.ensures text scanned

pub returns : goal.returns
returns c text above scanned = c.node_hint.ensures text c.args.spot.now.at
