use Rattle.std.proofs.Common.{◌≡◌, ◌-◌, ◌∙◌, None, Some, cond, length, sym, ap, take, drop, arith}
use Rattle.std.proofs.lemmas.List.{length-drop, take_all}
use Rattle.yaml_sum.specs.Listed.{name_part}
use Rattle.yaml_sum.proofs.listed.name_part.Goals as goal

pub returns-then-one_space : goal.returns-then-one_space
returns-then-one_space c =
    let line = c.args.line.now in
    let rest : take (length line - 65) (drop 65 line) ≡ drop 65 line = take_all (length line - 65) (drop 65 line) (omega (arith, length-drop 65 line)) in
    ap Some rest ∙ sym (ap (λ m. name_part m line) c.if-one_space.true)

pub returns-then-is_apart : goal.returns-then-is_apart
returns-then-is_apart c =
    let line = c.args.line.now in
    let rest : take (length line - 66) (drop 66 line) ≡ drop 66 line = take_all (length line - 66) (drop 66 line) (omega (arith, length-drop 66 line)) in
    ap Some rest ∙ sym (ap (λ m. name_part m line) c.if-one_space.false ∙ ap (λ z. cond z (Some (drop 66 line)) None) (sym c.is_apart.ensures ∙ c.if-is_apart.true))
