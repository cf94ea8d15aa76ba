use Rattle.std.proofs.Common.{◌≡◌, ◌≤◌, ◌<◌, ◌+◌, ◌-◌, ◌∙◌, ℕ, Bool, true, false, not, ap, refl, subst, length, take, arith}
use Rattle.std.proofs.lemmas.List.{get_or-take, length-take-le, length-drop}
use Rattle.yaml_text.specs.Source.{text_of}
use Rattle.yaml_definitions.specs.grammar.Characters.{is_break}
use Rattle.yaml_text.proofs.AsciiRuns.{CrossedOf, crossed_front_of}
use Rattle.yaml_text.proofs.Runs.{no_stand}
use Rattle.yaml_layout.proofs.key.skip_run.Goals as goal

-- no break
abbrev is_other : ℕ → Bool
is_other c = not (is_break c)

other : (c : ℕ) → is_break c ≡ false → is_other c ≡ true
other c t = ap not t

is_none : (c : ℕ) → is_other c ≡ true → is_break c ≡ false
is_none c t = grind (arith, t)

run_on : (c : goal.After-len_by_one) → CrossedOf is_other c.args.source.now c.args.at c.len_by_one.result (c.args.at + c.len_by_one.result)
run_on c =
    let source = c.args.source.now in
    let bytes = c.as_bytes.result.now in
    let n = c.args.to - c.args.at in
    let same = c.as_bytes.ensures.value ∙ c.rest.ensures in
    let len : length bytes ≡ length source.text.now - c.args.at = ap length same ∙ length-drop c.args.at source.text.now in
    let within : n ≤ length bytes = omega (arith, len, c.requires.to.0) in
    let most : length (take n bytes) ≡ n = length-take-le n bytes within in
    let front : c.len_by_one.result ≤ n = omega (arith, most, c.len_by_one.ensures.len) in
    crossed_front_of is_other source c.args.at c.len_by_one.result bytes c.requires.from same (omega (arith, front, within)) (λ k e.
    let f = c.len_by_one.ensures.front k e in
    let here = get_or-take n bytes k 0 (omega (arith, e, front)) in
    (subst (λ z. z < 128) here (f.0 refl), subst (λ z. is_other z ≡ true) here (other _ (f.1 refl))))

pub returns-clause-border : goal.returns-clause-border
returns-clause-border c = (run_on c).0

pub returns-clause-within : goal.returns-clause-within
returns-clause-within c =
    let source = c.args.source.now in
    let bytes = c.as_bytes.result.now in
    let n = c.args.to - c.args.at in
    let len : length bytes ≡ length source.text.now - c.args.at = ap length (c.as_bytes.ensures.value ∙ c.rest.ensures) ∙ length-drop c.args.at source.text.now in
    let most : length (take n bytes) ≡ n = length-take-le n bytes (omega (arith, len, c.requires.to.0)) in
    omega (arith, most, c.len_by_one.ensures.len, c.requires.order)

pub returns-clause-counted : goal.returns-clause-counted
returns-clause-counted c = omega (arith, (run_on c).2)

pub returns-clause-line : goal.returns-clause-line
returns-clause-line c = λ k a b.
    let s = (run_on c).1.1 k a b in
    no_stand (text_of c.args.source.now) is_break k s.0 s.1 (is_none s.0 s.2)
