use Rattle.std.proofs.Common.{◌≡◌, ℕ, ◌+◌, ◌<◌, ◌≤◌, List, length, get_or, refl, sym, ◌∙◌, ap, subst, arith}
use Rattle.std.proofs.lemmas.Grind.{get_or_default_zero}
use Rattle.review_folds.proofs.FoldLaws.{CountedTo, counted_few, counted_more, counted_past}
use Rattle.review_folds.proofs.fold.times.Goals as goal
use Rattle.review_folds.proofs.fold.times.Goals.{then-number-len, else-number-len}

pub overflow_add-index_mut : goal.overflow_add-index_mut
overflow_add-index_mut c =
    let list = c.args.list.now in
    let v = c.loop-number.counts in
    let k = c.loop-number.number-index in
    let n = get_or list k 0 in
    let old = c.index_mut.result.now in
    let under : k < length list = omega (arith, c.loop-number-test.true) in
    let within : n < length v.items = omega (arith, c.if-number-len.true, c.len.ensures, v.ok.0) in
    let few : get_or v.items n old ≤ k = counted_few list v.items k n old c.loop-number.invariant within (omega (arith, under)) in
    let is : old ≡ get_or v.items n old = c.index_mut.ensures.value in
    let level : length v.items ≡ length list = c.loop-number.invariant.0 in
    omega (arith, is, few, under, level, v.ok.0, v.ok.1, v.small)

pub loop-number-preserved : goal.loop-number-preserved
loop-number-preserved c =
    let list = c.args.list.now in
    let v = c.loop-number.counts in
    let k = c.loop-number.number-index in
    let n = get_or list k 0 in
    let under : k < length list = omega (arith, c.loop-number-test.true) in
    let P : List ℕ → Type 0 = CountedTo list (k + 1) in
    elim c.if-number-len.branch [
      | then-number-len w ↦
          let old = w.index_mut.result.now in
          let within : n < length v.items = omega (arith, w.if-number-len.true, c.len.ensures, v.ok.0) in
          let is : old ≡ get_or v.items n 0 = w.index_mut.ensures.value ∙ get_or_default_zero v.items n old within in
          counted_more list v.items k n 0 c.loop-number.invariant under refl old _ within is (ap (λ z. z.items) w.counts-is)
      | else-number-len w ↦
          let past : length v.items ≤ n = omega (arith, w.if-number-len.false, c.len.ensures, v.ok.0) in
          subst P (sym (ap (λ z. z.items) w.counts-is)) (counted_past list v.items k n 0 c.loop-number.invariant under refl past)
    ]
