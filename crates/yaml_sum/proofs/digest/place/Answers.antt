use Rattle.std.proofs.Common.{◌≡◌, ◌∙◌, ap, length, arith}
use Rattle.yaml_sum.proofs.DigestLaws.{placed_again, holds_front}
use Rattle.yaml_sum.proofs.SumLaws.{if_one}
use Rattle.yaml_sum.proofs.digest.place.Goals as goal

pub returns-clause-ok : goal.returns-clause-ok
returns-clause-ok c =
    let long = ap length c.as_mut_slice-2.ensures.value ∙ c.in_ok-lengthen.ensures.ok in
    let kept : length c.canonical_into-2.new.room ≡ c.lengthen.new.room.len = omega (arith, c.canonical_into-2.auto.room, c.as_mut_slice-2.ensures.len) in
    if_one c.canonical_into-2.result c.canonical_into-2.ensures.text
    (λ again k. holds_front _ _ _ _ again kept (placed_again _ _ _ _ _ c.in_ok-len.len again c.in_ok-len.ensures.text long k))
