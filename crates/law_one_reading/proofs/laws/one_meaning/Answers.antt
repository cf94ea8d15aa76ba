use Rattle.law_one_reading.proofs.Documents.{one_meaning}
use Rattle.law_one_reading.proofs.laws.one_meaning.Goals as goal

pub returns : goal.returns
returns c = one_meaning
