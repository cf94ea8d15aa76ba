use Rattle.std.proofs.Common.{◌-◌, ◌+◌, arith, length, true}
use Rattle.yaml_text.proofs.FrontLemmas.{front_on, stretch_len}
use Rattle.yaml_text.proofs.front.front_len.Goals as goal

pub loop-at-preserved : goal.loop-at-preserved
loop-at-preserved g c =
    let at = c.loop-at.at in
    let len = stretch_len c.args.bytes.now at (at + 16 - at) 16 c.loop-at-test.true (omega arith) in
    (c.loop-at-test.true, front_on (λ b. goal.F-post g c.args.is_one b true) c.args.bytes.now at (at + 16 - at) 16 c.loop-at.invariant.1 (λ k e. c.are_all.ensures.all c.if-are_all.true k (omega (arith, e, len))) (omega (arith, len)))

pub returns-clause-front : goal.returns-clause-front
returns-clause-front g c = front_on (λ b. goal.F-post g c.args.is_one b true) c.args.bytes.now c.loop-at.at (length c.args.bytes.now - c.loop-at.at) c.len_by_one.result c.loop-at.invariant.1 c.len_by_one.ensures.front c.len_by_one.ensures.len
