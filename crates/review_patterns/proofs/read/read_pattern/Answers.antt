use Rattle.std.proofs.Common.{◌≡◌, ◌<◌, ◌∙◌, true, false, [], length, bytes_eq, codes, sym, refl, arith, rules}
use Rattle.std.proofs.lemmas.Bool.{true≢false}
use Rattle.review_patterns.proofs.PatternLaws.{some-more, none-more, dot-pattern, other-pattern, only-pattern, not-empty, not-dot, is-dot}
use Rattle.review_patterns.proofs.read.read_pattern.Goals as goal

pub returns-then-eq-clause-some : goal.returns-then-eq-clause-some
returns-then-eq-clause-some c =
    let e : bytes_eq c.args.text.now (codes ".") ≡ true = search rules in
    some-more c.read_steps.result _ _ (λ p. dot-pattern c.args.text.now _ (is-dot c.args.text.now e)) c.read_steps.ensures.some

pub returns-then-eq-clause-none : goal.returns-then-eq-clause-none
returns-then-eq-clause-none c = none-more c.read_steps.result _ _ (λ none steps is. none [] tt refl) c.read_steps.ensures.none

pub returns-in-Some-clause-some : goal.returns-in-Some-clause-some
returns-in-Some-clause-some c =
    let some : 0 < length c.args.text.now = grind arith in
    some-more c.read_steps-in-Some.result _ _ (λ p. other-pattern c.args.text.now c.in-Some.document.now c.in-Some.steps.now _ (not-empty c.args.text.now some) c.in-Some.ensures.some.0 c.in-Some.ensures.some.1) c.read_steps-in-Some.ensures.some

pub returns-in-Some-clause-none : goal.returns-in-Some-clause-none
returns-in-Some-clause-none c =
    let e : bytes_eq c.args.text.now (codes ".") ≡ false = search rules in
    none-more c.read_steps-in-Some.result _ _
    (λ none steps. only-pattern c.args.text.now steps (not-dot c.args.text.now e) (λ document more last d a t are is. none last are ((c.in-Some.ensures.whole document more d a t).1 ∙ is)))
    c.read_steps-in-Some.ensures.none

pub returns-in-None-clause-none : goal.returns-in-None-clause-none
returns-in-None-clause-none c =
    let e : bytes_eq c.args.text.now (codes ".") ≡ false = search rules in
    λ steps. only-pattern c.args.text.now steps (not-dot c.args.text.now e) (λ document more last d a t are is. true≢false (sym (c.in-None.ensures.whole document more d a t).0))
