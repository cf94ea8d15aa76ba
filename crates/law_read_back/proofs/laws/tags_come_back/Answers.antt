use Rattle.law_read_back.proofs.TagReadings.{encoded_decoded}
use Rattle.law_read_back.proofs.laws.tags_come_back.Goals as goal

pub returns : goal.returns
returns c = encoded_decoded
