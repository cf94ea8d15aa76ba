use Rattle.std.proofs.Common.{length, drop, sym, ◌∙◌, ap, arith}
use Rattle.std.proofs.lemmas.Str.{IsCharBoundary-from_ascii}
use Rattle.std.proofs.lemmas.List.{drop_all}
use Rattle.yaml_core.specs.Digits.{without_zeros}
use Rattle.yaml_core.proofs.NumberLemmas.{zeros_more, zeros_end}
use Rattle.yaml_core.proofs.text.without_zeros.Goals as goal

pub range_from-requires : goal.range_from-requires
range_from-requires c =
    let l = ap length c.as_bytes-bytes.ensures.value in
    λ p. IsCharBoundary-from_ascii c.args.text.now c.loop-at.at c.requires (omega (arith, l, c.loop-at-test.true))

pub loop-at-preserved : goal.loop-at-preserved
loop-at-preserved c = sym (zeros_more c.as_bytes-bytes.result.now c.loop-at.at c.loop-at-test.true c.if-byte-ne48.false) ∙ c.loop-at.invariant

pub returns-then-byte-ne48 : goal.returns-then-byte-ne48
returns-then-byte-ne48 c =
    let xs = c.as_bytes-bytes.result.now in
    c.range_from.ensures.value
    ∙ (sym (ap (drop c.loop-at.at) c.as_bytes-bytes.ensures.value)
    ∙ (sym (zeros_end xs c.loop-at.at c.loop-at-test.true c.if-byte-ne48.true) ∙ (c.loop-at.invariant ∙ ap without_zeros c.as_bytes-bytes.ensures.value)))

pub returns : goal.returns
unfolding without_zeros
returns c =
    let xs = c.as_bytes-bytes.result.now in
    sym (ap without_zeros (drop_all c.loop-at.at xs c.loop-at-test.false)) ∙ (c.loop-at.invariant ∙ ap without_zeros c.as_bytes-bytes.ensures.value)
