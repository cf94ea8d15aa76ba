use Rattle.std.proofs.Common.{◌≡◌, ◌+◌, ◌-◌, ◌∙◌, ℕ, sym, ap, length, get_or, arith}
use Rattle.std.proofs.lemmas.List.{get_or-drop, length-drop}
use Rattle.yaml_definitions.specs.grammar.Characters.{is_nb}
use Rattle.yaml_text.proofs.LineBytes.{Passed, passed}
use Rattle.yaml_text.proofs.lines.skip_line.Goals as goal

passed_on : (c : goal.After-front_len) → Passed c.args.source.now c.args.at (c.args.at + c.front_len.result)
passed_on c =
    let source = c.args.source.now in
    let text = source.text.now in
    let at = c.args.at in
    let bytes = c.as_bytes.result.now in
    let n = c.front_len.result in
    let same = c.as_bytes.ensures.value ∙ c.rest.ensures in
    let len : length bytes ≡ length text - at = ap length same ∙ length-drop at text in
    let byte : (k : ℕ) → get_or bytes k 0 ≡ get_or text (at + k) 0 = λ k. ap (λ z. get_or z k 0) same ∙ get_or-drop at text k 0 in
    passed source at (at + n) c.requires (omega arith) (omega (arith, len, c.front_len.ensures.len, c.requires.0))
    (λ k a b. (let whole : at + (k - at) ≡ k = omega (arith, a) in sym (c.front_len.ensures.front (k - at) (omega (arith, a, b)) ∙ ap is_nb (byte (k - at) ∙ ap (λ i. get_or text i 0) whole))))
    (λ l. sym (c.front_len.ensures.next (omega (arith, l, len)) ∙ ap is_nb (byte n)))

pub returns-clause-border : goal.returns-clause-border
returns-clause-border c = (passed_on c).0

pub returns-clause-chars : goal.returns-clause-chars
returns-clause-chars c = (passed_on c).1

pub returns-clause-furthest : goal.returns-clause-furthest
returns-clause-furthest c = (passed_on c).2
