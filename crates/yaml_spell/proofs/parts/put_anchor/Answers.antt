use Rattle.std.proofs.Common.{rules, arith}
use Rattle.yaml_spell.specs.Stops.{fault_of}
use Rattle.yaml_spell.proofs.PieceLaws.{on_ok, if_err}
use Rattle.yaml_spell.proofs.PartLaws.{anchor_put, anchor_cut, anchor_late, anchor_last}
use Rattle.yaml_spell.proofs.parts.put_anchor.Goals as goal

pub returns-in_err-put-clause-err : goal.returns-in_err-put-clause-err
returns-in_err-put-clause-err g c =
    let m = anchor_cut g.S.Sink.holds g.S.Sink.stops c.args.sink.now c.args.out.now c.put.new.out c.args.number (fault_of c.in_err-put.field-0.0) c.requires (omega arith) c.in_err-put.ensures.err in
    search (rules, m)

pub returns-in_err-put_number-clause-err : goal.returns-in_err-put_number-clause-err
returns-in_err-put_number-clause-err g c =
    let m = anchor_late g.S.Sink.holds g.S.Sink.stops c.args.sink.now c.args.out.now c.put.new.self c.put.new.out c.put_number.new.out c.args.number (fault_of c.in_err-put_number.field-0.0) c.requires (omega arith) c.in_ok-put.ensures.ok c.in_err-put_number.ensures.err in
    search (rules, m)

pub returns-clause-ok : goal.returns-clause-ok
returns-clause-ok g c = on_ok c.put-2.result c.put-2.ensures.ok (λ h. anchor_put g.S.Sink.holds g.S.Sink.stops c.args.sink.now c.args.out.now c.put.new.self c.put.new.out c.put_number.new.sink c.put_number.new.out c.put-2.new.self c.put-2.new.out c.args.number c.requires (omega arith) c.in_ok-put.ensures.ok c.in_ok-put_number.ensures.ok h)

pub returns-clause-err : goal.returns-clause-err
returns-clause-err g c = if_err c.put-2.result c.put-2.ensures.err (λ stop h. anchor_last g.S.Sink.holds g.S.Sink.stops c.args.sink.now c.args.out.now c.put.new.self c.put.new.out c.put_number.new.sink c.put_number.new.out c.put-2.new.out c.args.number (fault_of stop) c.requires (omega arith) c.in_ok-put.ensures.ok c.in_ok-put_number.ensures.ok h)
