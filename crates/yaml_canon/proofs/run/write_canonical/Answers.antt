use Rattle.yaml_spell.proofs.PieceLaws.{if_err}
use Rattle.yaml_canon.proofs.RunLaws.{all_written, canonical_unwritten}
use Rattle.yaml_canon.proofs.run.write_canonical.Goals as goal

pub returns-clause-ok : goal.returns-clause-ok
returns-clause-ok g c = all_written g.W.Write.contents c.args.bytes.now c.args.out.now c.spell_stream.new.target c.spell_stream.result c.spell_stream.ensures.ok

pub returns-clause-err : goal.returns-clause-err
returns-clause-err g c = if_err c.spell_stream.result c.spell_stream.ensures.err (λ fault h. canonical_unwritten g.W.Write.contents c.args.bytes.now c.args.out.now c.spell_stream.new.target fault h)
