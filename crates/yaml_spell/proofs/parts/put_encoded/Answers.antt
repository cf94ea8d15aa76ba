use Rattle.std.proofs.Common.{rules, arith, ap, get_or}
use Rattle.yaml_spell.specs.Stops.{fault_of}
use Rattle.yaml_spell.proofs.PartLaws.{encoded_next, encoded_missed}
use Rattle.yaml_spell.proofs.parts.put_encoded.Goals as goal

pub returns-in_err-put_byte-clause-err : goal.returns-in_err-put_byte-clause-err
returns-in_err-put_byte-clause-err g c =
    let m = encoded_missed g.S.Sink.holds g.S.Sink.stops _ _ _ _ c.put_byte.new.out (fault_of c.in_err-put_byte.field-0.0) c.args.tag.now c.loop-byte.byte-index _ c.loop-byte.invariant (omega arith, ap (λ z. get_or z c.loop-byte.byte-index 0) c.as_bytes-byte-items.ensures.value) c.in_err-put_byte.ensures.err in
    search (rules, m)

pub loop-byte-preserved : goal.loop-byte-preserved
loop-byte-preserved g c = encoded_next g.S.Sink.holds _ _ _ _ _ _ c.args.tag.now c.loop-byte.byte-index _ c.loop-byte.invariant (omega arith, ap (λ z. get_or z c.loop-byte.byte-index 0) c.as_bytes-byte-items.ensures.value) c.in_ok-put_byte.ensures.ok
