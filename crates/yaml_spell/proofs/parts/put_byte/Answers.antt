use Rattle.std.proofs.Common.{arith, sym, ◌∙◌, subst}
use Rattle.yaml_spell.specs.Stops.{fault_of}
use Rattle.yaml_spell.specs.Pieces.{TakesPiece, Misses}
use Rattle.yaml_spell.proofs.PieceLaws.{on_ok, if_err}
use Rattle.yaml_spell.proofs.PartLaws.{byte_itself, byte_escaped}
use Rattle.yaml_spell.proofs.parts.put_byte.Goals as goal

pub returns-then-is_uri-clause-ok : goal.returns-then-is_uri-clause-ok
returns-then-is_uri-clause-ok g c =
    on_ok c.put.result c.put.ensures.ok (λ h. subst (TakesPiece g.S.Sink.holds c.args.sink.now c.args.out.now c.put.new.self c.put.new.out) (c.encode_utf8.ensures.value ∙ byte_itself c.args.byte c.from-c.result c.from-c.ensures (sym c.if-is_uri.ensures)) h)

pub returns-then-is_uri-clause-err : goal.returns-then-is_uri-clause-err
returns-then-is_uri-clause-err g c =
    if_err c.put.result c.put.ensures.err (λ stop h. subst (Misses g.S.Sink.holds g.S.Sink.stops c.args.sink.now c.args.out.now c.put.new.out (fault_of stop)) (c.encode_utf8.ensures.value ∙ byte_itself c.args.byte c.from-c.result c.from-c.ensures (sym c.if-is_uri.ensures)) h)

pub returns-else-is_uri-clause-ok : goal.returns-else-is_uri-clause-ok
returns-else-is_uri-clause-ok g c =
    on_ok c.put_escape.result c.put_escape.ensures.ok (λ h. subst (TakesPiece g.S.Sink.holds c.args.sink.now c.args.out.now c.put_escape.new.sink c.put_escape.new.out) (byte_escaped c.args.byte c.from-c.result c.from-c.ensures (sym c.if-is_uri.ensures) (omega arith)) h)

pub returns-else-is_uri-clause-err : goal.returns-else-is_uri-clause-err
returns-else-is_uri-clause-err g c =
    if_err c.put_escape.result c.put_escape.ensures.err (λ stop h. subst (Misses g.S.Sink.holds g.S.Sink.stops c.args.sink.now c.args.out.now c.put_escape.new.out (fault_of stop)) (byte_escaped c.args.byte c.from-c.result c.from-c.ensures (sym c.if-is_uri.ensures) (omega arith)) h)
