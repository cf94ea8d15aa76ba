use Rattle.std.proofs.Common.{◌≡◌, ◌+◌, ◌-◌, ◌*◌, ◌/◌, min, drop, length, sym, ◌∙◌, ap, subst, arith, rules}
use Rattle.std.proofs.lemmas.List.{length-drop, take_all}
use Rattle.yaml_tree.specs.PrefixModel.{front, IsPrefix}
use Rattle.yaml_store_rank.specs.NumberKeys.{joined}
use Rattle.yaml_store_rank.proofs.FrontParts.{next-none, prefix-of}
use Rattle.yaml_store_rank.proofs.slot.first_bytes.Goals as goal
use Rattle.yaml_store_rank.proofs.slot.first_bytes.Goals.{then-text-gt8, else-text-gt8}

pub returns : goal.returns
returns c =
    let text = c.args.text.now in
    let next : c.if-text-gt8.next ≡ front 8 (drop 8 text) = elim c.if-text-gt8.branch [
      | then-text-gt8 w ↦ w.next-is ∙ (w.eight_bytes-next.ensures ∙ ap (front 8) (take_all (length text - 8) (drop 8 text) (omega (arith, length-drop 8 text))))
      | else-text-gt8 w ↦ w.next-is ∙ sym (next-none text (omega (arith, w.if-text-gt8.false)))
    ] in
    let most : c.min.result ≡ min (length text) 16 = search rules in
    subst (λ m. IsPrefix text (joined c.eight_bytes-high.result (c.if-text-gt8.next / 256 * 256 + m))) (sym most)
    (prefix-of text c.eight_bytes-high.result c.if-text-gt8.next (λ k. omega (arith, c.type_inv.text k)) c.eight_bytes-high.ensures next)
