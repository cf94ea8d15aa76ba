use Rattle.yaml_spell.proofs.PieceLaws.{if_err}
use Rattle.yaml_canon.proofs.TargetLaws.{never_broken}
use Rattle.yaml_canon.proofs.placing.place_canonical.Goals as goal

pub returns-clause-refused : goal.returns-clause-refused
returns-clause-refused c = if_err c.spell_stream.result c.spell_stream.ensures.err (λ fault h. never_broken c.args.bytes.now _ _ fault h)
