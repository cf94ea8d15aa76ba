use Rattle.std.proofs.Common.{length, ap, arith, get_or}
use Rattle.std.proofs.lemmas.Str.{IsCharBoundary-after_ascii}
use Rattle.yaml_core.proofs.text.unsigned.Goals as goal

pub range_from-requires : goal.range_from-requires
range_from-requires c =
    let l = ap length c.as_bytes.ensures.value in
    let e = ap (λ xs. get_or xs 0 0) c.as_bytes.ensures.value in
    λ p. IsCharBoundary-after_ascii c.args.text.now 0 c.utf8.text (omega (arith, l)) (grind (arith, e))
