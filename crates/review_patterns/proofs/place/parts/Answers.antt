use Rattle.std.proofs.Common.{◌∙◌, ◌+◌, ap, sym, length, take, rules, arith}
use Rattle.std.proofs.lemmas.List.{take_all, take_rest}
use Rattle.review_patterns.proofs.PlaceLaws.{part-at, part-none, last-at, last-none}
use Rattle.review_patterns.proofs.place.parts.Goals as goal

pub returns-in-Some-clause-first : goal.returns-in-Some-clause-first
returns-in-Some-clause-first c =
    sym (ap (λ z. take z c.args.text.now) (part-at c.args.separator c.args.text.now c.in-Some.place (search rules) (search rules) (search rules)))

pub returns-in-Some-clause-last : goal.returns-in-Some-clause-last
returns-in-Some-clause-last c =
    take_rest c.args.text.now (c.in-Some.place + 1) ∙ sym (last-at c.args.separator c.args.text.now c.in-Some.place (search rules) (part-at c.args.separator c.args.text.now c.in-Some.place (search rules) (search rules) (search rules)))

pub returns-in-None-clause-first : goal.returns-in-None-clause-first
returns-in-None-clause-first c =
    sym (ap (λ z. take z c.args.text.now) (part-none c.args.separator c.args.text.now (search rules)) ∙ take_all (length c.args.text.now) c.args.text.now (omega arith))

pub returns-in-None-clause-last : goal.returns-in-None-clause-last
returns-in-None-clause-last c = sym (last-none c.args.separator c.args.text.now (part-none c.args.separator c.args.text.now (search rules)))
