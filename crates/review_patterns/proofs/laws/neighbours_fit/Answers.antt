use Rattle.review_patterns.proofs.SpanLaws.{neighbours-fit}
use Rattle.review_patterns.proofs.laws.neighbours_fit.Goals as goal

pub returns : goal.returns
returns c = neighbours-fit
