use Rattle.std.proofs.Common.{◌-◌, ◌<◌, true, false, length, sym, subst, inl, inr, refl, arith}
use Rattle.std.proofs.lemmas.Option.{slice_get_read}
use Rattle.yaml_rank.specs.KeyModel.{key_cmp}
use Rattle.yaml_tree.proofs.Numbering.{Goes, numbering-more, tested, finished}
use Rattle.yaml_rank.proofs.key_numbers.number.Goals as goal
use Rattle.yaml_rank.proofs.key_numbers.number.Goals.{then-place-gt0+then-is_below, else-place-gt0, else-place-gt0-via-then-place-gt0+else-is_below, else-place-gt0-via-else-place-gt0}

pub loop-place-preserved : goal.loop-place-preserved
loop-place-preserved c =
    let keys = c.args.keys.now in
    let k = c.loop-place.place in
    let x = c.index-keys-place.result in
    let there = slice_get_read keys (length keys) k x refl c.loop-place-test.true c.index-keys-place.is in
    let within : x.1 < length c.args.ranks.now = subst (λ z. z.1 < length c.args.ranks.now) (sym c.index-keys-place.is) (c.requires.within k x c.loop-place-test.true) in
    let goes : Goes key_cmp c.args.ranks.now c.args.start keys k c.loop-place.rank c.if-place-gt0.rank c.loop-place.ranks x there within c.loop-place.invariant =
    elim c.if-place-gt0.branch [
      | then-place-gt0+then-is_below w ↦ inr (w.if-place-gt0.true, (let h = c.loop-place.invariant.high w.if-place-gt0.true in let e = w.rank-is in omega arith, omega (arith, w.rank-is)), λ p h. tested key_cmp keys (k - 1) _ p x.0 w.is_below.result true h w.is_below.ensures w.if-is_below.true)
      | else-place-gt0 w ↦ elim w.else-place-gt0.branch [
        | else-place-gt0-via-then-place-gt0+else-is_below v ↦ inl (w.rank-is, λ z p h. tested key_cmp keys (k - 1) _ p x.0 v.is_below.result false h v.is_below.ensures v.if-is_below.false)
        | else-place-gt0-via-else-place-gt0 v ↦ inl (w.rank-is, λ z p h. absurd (omega (arith, v.if-place-gt0.false)))
      ]
    ] in
    numbering-more key_cmp c.args.ranks.now c.args.start keys k c.loop-place.rank c.if-place-gt0.rank c.loop-place.ranks x there within c.loop-place.invariant goes

pub returns-clause-numbered : goal.returns-clause-numbered
returns-clause-numbered c = λ a agree rises. finished key_cmp c.args.ranks.now c.args.start c.args.keys.now c.loop-place.place c.loop-place.rank c.loop-place.ranks c.loop-place.invariant (omega (arith, c.loop-place-test.false)) a agree rises
