use Rattle.std.proofs.Common.{rules}
use Rattle.yaml_spell.specs.Stops.{fault_of}
use Rattle.yaml_spell.proofs.PieceLaws.{on_ok, if_err}
use Rattle.yaml_spell.proofs.PartLaws.{tag_put, tag_cut, tag_spelled, tag_unopened, tag_broken, tag_unclosed}
use Rattle.yaml_spell.proofs.parts.put_full_tag.Goals as goal

pub returns-in-Some-clause-ok : goal.returns-in-Some-clause-ok
returns-in-Some-clause-ok g c =
    on_ok c.put.result c.put.ensures.ok (λ h. tag_put g.S.Sink.holds g.S.Sink.stops c.args.sink.now c.args.out.now c.put.new.self c.put.new.out c.args.tag.now _ _ c.in-Some.ensures.some.0 c.in-Some.ensures.some.1 h)

pub returns-in-Some-clause-err : goal.returns-in-Some-clause-err
returns-in-Some-clause-err g c =
    if_err c.put.result c.put.ensures.err (λ stop h. tag_cut g.S.Sink.holds g.S.Sink.stops c.args.sink.now c.args.out.now c.put.new.out (fault_of stop) c.args.tag.now _ _ c.in-Some.ensures.some.0 c.in-Some.ensures.some.1 h)

pub returns-in_err-put-clause-err : goal.returns-in_err-put-clause-err
returns-in_err-put-clause-err g c =
    let m = tag_unopened g.S.Sink.holds g.S.Sink.stops c.args.sink.now c.args.out.now c.put-2.new.out (fault_of c.in_err-put.field-0.0) c.args.tag.now c.in_default.ensures.none c.in_err-put.ensures.err in
    search (rules, m)

pub returns-in_err-put_encoded-clause-err : goal.returns-in_err-put_encoded-clause-err
returns-in_err-put_encoded-clause-err g c =
    let m = tag_broken g.S.Sink.holds g.S.Sink.stops c.args.sink.now c.args.out.now c.put-2.new.self c.put-2.new.out c.put_encoded.new.out (fault_of c.in_err-put_encoded.field-0.0) c.args.tag.now c.in_default.ensures.none c.in_ok-put.ensures.ok c.in_err-put_encoded.ensures.err in
    search (rules, m)

pub returns-clause-ok : goal.returns-clause-ok
returns-clause-ok g c =
    on_ok c.put-3.result c.put-3.ensures.ok (λ h. tag_spelled g.S.Sink.holds g.S.Sink.stops c.args.sink.now c.args.out.now c.put-2.new.self c.put-2.new.out c.put_encoded.new.sink c.put_encoded.new.out c.put-3.new.self c.put-3.new.out c.args.tag.now c.in_default.ensures.none c.in_ok-put.ensures.ok c.in_ok-put_encoded.ensures.ok h)

pub returns-clause-err : goal.returns-clause-err
returns-clause-err g c =
    if_err c.put-3.result c.put-3.ensures.err (λ stop h. tag_unclosed g.S.Sink.holds g.S.Sink.stops c.args.sink.now c.args.out.now c.put-2.new.self c.put-2.new.out c.put_encoded.new.sink c.put_encoded.new.out c.put-3.new.out (fault_of stop) c.args.tag.now c.in_default.ensures.none c.in_ok-put.ensures.ok c.in_ok-put_encoded.ensures.ok h)
