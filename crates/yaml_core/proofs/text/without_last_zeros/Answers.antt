use Rattle.std.proofs.Common.{◌≡◌, take, sym, ◌∙◌, ap, arith}
use Rattle.yaml_core.specs.Digits.{without_last_zeros}
use Rattle.yaml_core.proofs.CutLemmas.{last_zero, last_other, last_none, range_front}
use Rattle.yaml_core.proofs.text.without_last_zeros.Goals as goal
use Rattle.yaml_core.proofs.text.without_last_zeros.Goals.{then-loop-end-test+else-bytes-end-eq48, else-loop-end-test}

pub loop-end-preserved : goal.loop-end-preserved
loop-end-preserved c =
    (omega arith, sym (last_zero c.as_bytes-bytes.result.now c.loop-end.end c.loop-end-test.true c.loop-end.invariant.0 c.if-bytes-end-eq48.true) ∙ c.loop-end.invariant.1)

pub returns : goal.returns
unfolding without_last_zeros
returns c =
    let e = c.as_bytes-bytes.ensures.value in
    let n = c.loop-end.end in
    let i = c.loop-end.invariant in
    let xs = c.as_bytes-bytes.result.now in
    let f : without_last_zeros (take n xs) ≡ take n xs =
    elim c.loop-end-test.branch [
      | then-loop-end-test+else-bytes-end-eq48 w ↦ last_other xs n w.loop-end-test.true i.0 w.if-bytes-end-eq48.false
      | else-loop-end-test w ↦ last_none xs n w.loop-end-test.false
    ] in
    c.range.ensures.value ∙ (range_front c.args.text.now n ∙ (ap (take n) (sym e) ∙ (sym f ∙ (i.1 ∙ ap without_last_zeros e))))
