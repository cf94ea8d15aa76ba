use Rattle.std.proofs.Common.{subst}
use Rattle.review_hints.specs.Hints.{IsTrue}
use Rattle.review_hints.proofs.hints.syntax_words.Goals as goal

pub words-requires : goal.words-requires
words-requires c = (_, c.hint_of-hint.ensures c.args.text.now c.in_ok-spot.ensures.above c.in_ok-spot.ensures.scan)

pub returns-clause-hint : goal.returns-clause-hint
returns-clause-hint c within =
    let hint = subst (λ z. IsTrue c.args.text.now z c.hint_of-hint.result) c.in_ok-spot.ensures.at (c.hint_of-hint.ensures c.args.text.now c.in_ok-spot.ensures.above c.in_ok-spot.ensures.scan) in
    rw c.cause.ensures (c.in_ok-words.ensures.hint c.args.at within hint)
