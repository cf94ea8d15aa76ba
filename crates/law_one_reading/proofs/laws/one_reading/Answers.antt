use Rattle.law_one_reading.proofs.Documents.{one_reading}
use Rattle.law_one_reading.proofs.laws.one_reading.Goals as goal

pub returns : goal.returns
returns c = one_reading
