use Rattle.yaml_canon.proofs.AcceptLaws.{memory, memory-of-spelling}
use Rattle.yaml_canon.proofs.laws.nothing_else_is_refused.Goals as goal

pub returns-clause-meaning : goal.returns-clause-meaning
returns-clause-meaning c = λ bytes f fault a m h. memory bytes f a m fault h

pub returns-clause-spelling : goal.returns-clause-spelling
returns-clause-spelling c = memory-of-spelling
