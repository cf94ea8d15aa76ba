use Rattle.law_read_back.proofs.StreamReadings.{spellings_are_read}
use Rattle.law_read_back.proofs.BlockReadings.{blocks_are_read}
use Rattle.law_read_back.proofs.laws.spellings_are_read.Goals as goal

pub returns-clause-canonical : goal.returns-clause-canonical
returns-clause-canonical c = spellings_are_read

pub returns-clause-block : goal.returns-clause-block
returns-clause-block c = blocks_are_read
