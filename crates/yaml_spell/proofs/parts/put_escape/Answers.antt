use Rattle.std.proofs.Common.{rules, refl, [], ◌∷◌, ◌/◌, ◌%◌}
use Rattle.yaml_definitions.specs.canonical.CharText.{hex_digit}
use Rattle.yaml_spell.specs.Stops.{fault_of}
use Rattle.yaml_spell.proofs.PieceLaws.{adds_then, misses_more, misses_later, if_err}
use Rattle.yaml_spell.proofs.parts.put_escape.Goals as goal

pub returns-in_err-put-2-clause-err : goal.returns-in_err-put-2-clause-err
returns-in_err-put-2-clause-err g c =
    let h = g.S.Sink.holds in
    let b = c.args.byte in
    let m = misses_more h g.S.Sink.stops _ _ c.put-2.new.out (fault_of c.in_err-put-2.field-0.0) _ (hex_digit (b % 16) ∷ []) (37 ∷ hex_digit (b / 16) ∷ hex_digit (b % 16) ∷ [])
    (misses_later h g.S.Sink.stops c.args.sink.now c.args.out.now c.put.new.self c.put.new.out c.put-2.new.out (fault_of c.in_err-put-2.field-0.0) (37 ∷ []) (hex_digit (b / 16) ∷ []) c.in_ok-put.ensures.ok (rw c.digit.ensures at c.in_err-put-2.ensures.err)) refl in
    search (rules, m)

pub returns-clause-err : goal.returns-clause-err
returns-clause-err g c =
    let h = g.S.Sink.holds in
    let b = c.args.byte in
    if_err c.put-3.result c.put-3.ensures.err (λ stop m.
    misses_later h g.S.Sink.stops c.args.sink.now c.args.out.now c.put-2.new.self c.put-2.new.out c.put-3.new.out (fault_of stop) (37 ∷ hex_digit (b / 16) ∷ []) (hex_digit (b % 16) ∷ [])
    (adds_then h c.args.sink.now c.args.out.now c.put.new.self c.put.new.out c.put-2.new.self c.put-2.new.out (37 ∷ []) (hex_digit (b / 16) ∷ []) c.in_ok-put.ensures.ok (rw c.digit.ensures at c.in_ok-put-2.ensures.ok)) (rw c.digit-2.ensures at m))
