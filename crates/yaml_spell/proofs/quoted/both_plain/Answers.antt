use Rattle.std.proofs.Common.{arith}
use Rattle.yaml_spell.proofs.PlainLaws.{other_in, other_first, plain_last, plain_first, both_yes, either_no}
use Rattle.yaml_spell.proofs.quoted.both_plain.Goals as goal

pub returns-clause-yes : goal.returns-clause-yes
returns-clause-yes c = λ e.
    let xs = c.args.bytes.now in
    let w = c.args.width in
    let b = both_yes _ _ e in
    plain_last xs w _ (omega arith) (plain_first xs w c.requires.within (c.are_plain.ensures.yes b.0)) (c.are_plain-2.ensures.yes b.1)

pub returns-clause-no : goal.returns-clause-no
returns-clause-no c = λ e.
    let xs = c.args.bytes.now in
    either_no _ _ e (λ f. other_first xs _ (c.are_plain.ensures.no f)) (λ f. other_in xs _ _ (c.are_plain-2.ensures.no f))
