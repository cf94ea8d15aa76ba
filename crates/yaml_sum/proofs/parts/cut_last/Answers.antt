use Rattle.std.proofs.Common.{◌≡◌, ◌==◌, ◌+◌, ◌-◌, ◌∙◌, Some, length, ap, take, drop, arith}
use Rattle.std.proofs.lemmas.List.{length-drop, take_all}
use Rattle.yaml_sum.proofs.PartLaws.{cut_is}
use Rattle.yaml_sum.proofs.parts.cut_last.Goals as goal

pub returns-then-text-at-eq41 : goal.returns-then-text-at-eq41
returns-then-text-at-eq41 c =
    let text = c.args.text.now in
    let at = c.bytes.at in
    let one : at - 1 + 1 ≡ at = omega (arith, c.bytes-test.true) in
    let rest : take (length text - (at - 1 + 1)) (drop (at - 1 + 1) text) ≡ drop (at - 1 + 1) text = take_all (length text - (at - 1 + 1)) (drop (at - 1 + 1) text) (omega (arith, length-drop (at - 1 + 1) text)) in
    ap (λ z. Some (take (at - 1) text, z)) (rest ∙ ap (λ n. drop n text) one) ∙ cut_is text at (at - 1) 0 one c.bytes.invariant.within (ap (λ z. z == 41) c.if-text-at-eq41.true) c.bytes.invariant.none
