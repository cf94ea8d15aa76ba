use Rattle.law_read_back.proofs.Meanings.{spellings_mean, blocks_mean}
use Rattle.law_read_back.proofs.laws.spellings_mean.Goals as goal

pub returns-clause-canonical : goal.returns-clause-canonical
returns-clause-canonical c = spellings_mean

pub returns-clause-block : goal.returns-clause-block
returns-clause-block c = blocks_mean
