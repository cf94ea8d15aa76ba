use Rattle.std.proofs.Common.{rules, arith}
use Rattle.yaml_spell.specs.Stops.{fault_of}
use Rattle.yaml_spell.proofs.PieceLaws.{on_ok, if_err}
use Rattle.yaml_spell.proofs.PartLaws.{last_put, last_cut, number_cut, digit_put, digit_cut}
use Rattle.yaml_spell.proofs.parts.+put_number.Goals as goal

pub returns-then-number-lt10-clause-ok : goal.returns-then-number-lt10-clause-ok
returns-then-number-lt10-clause-ok g t c = on_ok c.put.result c.put.ensures.ok (λ h. digit_put g.S.Sink.holds g.S.Sink.stops c.args.sink.now c.args.out.now c.put.new.self c.put.new.out c.args.number _ (omega arith) c.digit-last.ensures h)

pub returns-then-number-lt10-clause-err : goal.returns-then-number-lt10-clause-err
returns-then-number-lt10-clause-err g t c = if_err c.put.result c.put.ensures.err (λ stop h. digit_cut g.S.Sink.holds g.S.Sink.stops c.args.sink.now c.args.out.now c.put.new.out (fault_of stop) c.args.number _ (omega arith) c.digit-last.ensures h)

pub returns-in_err-put_number-clause-err : goal.returns-in_err-put_number-clause-err
returns-in_err-put_number-clause-err g t c =
    let m = number_cut g.S.Sink.holds g.S.Sink.stops c.args.sink.now c.args.out.now c.put_number.new.out (fault_of c.in_err-put_number.field-0.0) c.args.number (omega arith) (omega arith) c.in_err-put_number.ensures.err in
    search (rules, m)

pub returns-clause-ok : goal.returns-clause-ok
returns-clause-ok g t c = on_ok c.put-2.result c.put-2.ensures.ok (λ h. last_put g.S.Sink.holds g.S.Sink.stops c.args.sink.now c.args.out.now c.put_number.new.sink c.put_number.new.out c.put-2.new.self c.put-2.new.out c.args.number _ (omega arith) (omega arith) c.digit-last.ensures c.in_ok-put_number.ensures.ok h)

pub returns-clause-err : goal.returns-clause-err
returns-clause-err g t c = if_err c.put-2.result c.put-2.ensures.err (λ stop h. last_cut g.S.Sink.holds g.S.Sink.stops c.args.sink.now c.args.out.now c.put_number.new.sink c.put_number.new.out c.put-2.new.out (fault_of stop) c.args.number _ (omega arith) (omega arith) c.digit-last.ensures c.in_ok-put_number.ensures.ok h)
