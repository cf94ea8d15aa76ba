use Rattle.yaml_spell.specs.Stops.{fault_of}
use Rattle.yaml_spell.proofs.PieceLaws.{on_ok, if_err, puts_then, fails_later}
use Rattle.yaml_spell.proofs.PartLaws.{content_put, content_cut}
use Rattle.yaml_spell.proofs.parts.put_scalar.Goals as goal

pub returns-clause-ok : goal.returns-clause-ok
returns-clause-ok g c = on_ok c.put_spelled.result c.put_spelled.ensures.ok (λ h. puts_then g.S.Sink.holds c.args.sink.now c.args.out.now c.put_tag.new.sink c.put_tag.new.out c.put_spelled.new.self c.put_spelled.new.out _ _ c.in_ok-put_tag.ensures.ok (content_put g.S.Sink.holds g.S.Sink.stops _ _ _ _ c.args.content.now h))

pub returns-clause-err : goal.returns-clause-err
returns-clause-err g c = if_err c.put_spelled.result c.put_spelled.ensures.err (λ stop h. fails_later g.S.Sink.holds g.S.Sink.stops c.args.sink.now c.args.out.now c.put_tag.new.sink c.put_tag.new.out c.put_spelled.new.out (fault_of stop) _ _ c.in_ok-put_tag.ensures.ok (content_cut g.S.Sink.holds g.S.Sink.stops _ _ _ (fault_of stop) c.args.content.now h))
