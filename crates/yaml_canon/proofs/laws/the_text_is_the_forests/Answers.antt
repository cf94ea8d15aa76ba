use Rattle.yaml_canon.proofs.AcceptLaws.{text-is, text-of-spelling}
use Rattle.yaml_canon.proofs.laws.the_text_is_the_forests.Goals as goal

pub returns-clause-meaning : goal.returns-clause-meaning
returns-clause-meaning c = λ bytes text f a m h. text-is bytes f a m text h

pub returns-clause-spelling : goal.returns-clause-spelling
returns-clause-spelling c = text-of-spelling
