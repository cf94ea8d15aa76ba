use Rattle.yaml_definitions.proofs.BlockTextLaws.{blocks_are_text}
use Rattle.yaml_definitions.proofs.PrintLaws.{spelled_text}
use Rattle.yaml_definitions.proofs.laws.spellings_are_text.Goals as goal

pub returns-clause-canonical : goal.returns-clause-canonical
returns-clause-canonical c = spelled_text

pub returns-clause-block : goal.returns-clause-block
returns-clause-block c = blocks_are_text
