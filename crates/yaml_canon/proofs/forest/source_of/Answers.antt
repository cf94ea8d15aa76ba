use Rattle.yaml_spell.proofs.PieceLaws.{if_err}
use Rattle.yaml_canon.proofs.RefusedLaws.{no-text}
use Rattle.yaml_canon.proofs.forest.source_of.Goals as goal

pub returns-clause-why : goal.returns-clause-why
returns-clause-why c = if_err c.read.result c.read.ensures.refused (λ fault h. no-text c.args.bytes.now fault h)
