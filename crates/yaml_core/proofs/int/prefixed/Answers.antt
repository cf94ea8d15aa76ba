use Rattle.std.proofs.Common.{◌-◌, List, ℕ, length, pos, drop, take, arith, ◌∙◌, ap, ◌≡◌}
use Rattle.std.proofs.lemmas.List.{take_all, length-drop}
use Rattle.std.specs.Cow.{cow_str_bytes}
use Rattle.yaml_definitions.specs.model.Core.{int_value, number_in, natural_text}
use Rattle.yaml_core.proofs.IntLemmas.{content_result, marked_content}
use Rattle.yaml_core.proofs.int.prefixed.Goals as goal

-- the bytes from the third on
rest : (b : List ℕ) → take (length b - 2) (drop 2 b) ≡ drop 2 b
rest b = let l = length-drop 2 b in take_all (length b - 2) (drop 2 b) (omega (arith, l))

pub returns-in-Some : goal.returns-in-Some
returns-in-Some c =
    let m = number_in c.args.base (drop 2 c.args.text.now) in
    let b = c.as_bytes-bytes.result.now in
    let e = c.in-Some.ensures in
    content_result cow_str_bytes (int_value (pos m)) (natural_text c.in-Some.number) c.natural.result
    (marked_content c.in-Some.number m (e.0 ∙ ap (number_in c.args.base) (rest b ∙ ap (drop 2) c.as_bytes-bytes.ensures.value)) e.1) c.natural.ensures
