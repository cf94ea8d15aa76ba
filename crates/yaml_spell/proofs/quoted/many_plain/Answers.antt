use Rattle.std.proofs.Common.{◌+◌, ◌-◌, arith, length, refl}
use Rattle.yaml_text.proofs.FrontLemmas.{front_on, stretch_len}
use Rattle.yaml_spell.specs.Quoted.{Plain}
use Rattle.yaml_spell.proofs.PlainLaws.{other_in, plain_last}
use Rattle.yaml_spell.proofs.quoted.many_plain.Goals as goal

pub returns-then-not-both_plain-clause-no : goal.returns-then-not-both_plain-clause-no
returns-then-not-both_plain-clause-no c = λ e. other_in c.args.bytes.now c.test.at _ (c.if-not-both_plain.ensures.no refl)

pub test-preserved : goal.test-preserved
test-preserved c =
    let at = c.test.at in
    let len = stretch_len c.args.bytes.now at (at + 16 - at) 16 c.test-test.true (omega arith) in
    (c.test-test.true, front_on Plain c.args.bytes.now at (at + 16 - at) 16 c.test.invariant.1 (λ k e. c.if-not-both_plain.ensures.yes refl k (omega (arith, e, len))) (omega (arith, len)))

pub returns-clause-yes : goal.returns-clause-yes
returns-clause-yes c = λ e. plain_last c.args.bytes.now c.test.at (length c.args.bytes.now - 16) (omega (arith, c.test-test.false)) c.test.invariant.1 (c.both_plain-2.ensures.yes e)

pub returns-clause-no : goal.returns-clause-no
returns-clause-no c = λ e. other_in c.args.bytes.now (length c.args.bytes.now - 16) _ (c.both_plain-2.ensures.no e)
