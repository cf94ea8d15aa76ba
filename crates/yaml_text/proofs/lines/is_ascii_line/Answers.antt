use Rattle.std.proofs.Common.{◌≡◌, ◌≤◌, ◌<◌, ◌+◌, ◌-◌, ◌∙◌, ℕ, true, nat_eq, ap, refl, subst, length, take, arith}
use Rattle.std.proofs.lemmas.List.{get_or-take, length-take-le, length-drop}
use Rattle.yaml_definitions.specs.grammar.Characters.{is_nb}
use Rattle.yaml_text.proofs.Tests.{on_true}
use Rattle.yaml_text.proofs.AsciiRuns.{CrossedOf, crossed_front_of}
use Rattle.yaml_text.proofs.lines.is_ascii_line.Goals as goal

equal : (a b : ℕ) → nat_eq a b ≡ true → a ≡ b
equal a b t = grind (arith, t)

pub returns : goal.returns
returns c = on_true (nat_eq c.len_by_one.result (length (take (c.args.to - c.args.from) c.as_bytes.result.now))) (λ t.
    let source = c.args.source.now in
    let bytes = c.as_bytes.result.now in
    let n = c.args.to - c.args.from in
    let same = c.as_bytes.ensures.value ∙ c.rest.ensures in
    let len : length bytes ≡ length source.text.now - c.args.from = ap length same ∙ length-drop c.args.from source.text.now in
    let within : n ≤ length bytes = omega (arith, len, c.requires.to.0) in
    let whole : c.len_by_one.result ≡ n = equal _ _ t ∙ length-take-le n bytes within in
    let to : c.args.from + n ≡ c.args.to = omega (arith, c.requires.order) in
    let x = crossed_front_of is_nb source c.args.from n bytes c.requires.from same within (λ k e.
    let f = c.len_by_one.ensures.front k (omega (arith, e, whole)) in
    let here = get_or-take n bytes k 0 e in
    (subst (λ z. z < 128) here (f.0 refl), subst (λ z. is_nb z ≡ true) here (f.1.0 refl))) in
    let y = subst (CrossedOf is_nb source c.args.from n) to x in
    (y.1, omega (arith, y.2, c.requires.order)))
