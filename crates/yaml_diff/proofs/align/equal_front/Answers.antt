use Rattle.std.proofs.Common.{sym, ◌∙◌, arith}
use Rattle.yaml_diff.proofs.AlignLaws.{same-here, here-same, left-within, right-within, front-next}
use Rattle.yaml_diff.proofs.align.equal_front.Goals as goal

pub loop-front-preserved : goal.loop-front-preserved
loop-front-preserved c =
    let r = c.args.forests.now in
    let xs = c.args.lefts.now in
    let ys = c.args.rights.now in
    let at = c.loop-front.front in
    let s = same-here r xs ys at at (omega arith) (omega arith) (sym c.rank.ensures ∙ c.if-rank.true ∙ c.rank-then-front-rights.ensures) in
    record { left = omega arith; right = omega arith; same = front-next r xs ys at s c.loop-front.invariant.same }

pub returns-else-rank : goal.returns-else-rank
returns-else-rank c =
    let r = c.args.forests.now in
    let xs = c.args.lefts.now in
    let ys = c.args.rights.now in
    let at = c.loop-front.front in
    let i = c.loop-front.invariant in
    record { left = i.left; right = i.right; same = i.same; ends = λ s. absurd (c.if-rank.false (c.rank.ensures ∙ here-same r xs ys at at s ∙ sym c.rank-then-front-rights.ensures)) }

pub returns-else-front-rights : goal.returns-else-front-rights
returns-else-front-rights c =
    let i = c.loop-front.invariant in
    record { left = i.left; right = i.right; same = i.same; ends = λ s. absurd (let l = right-within c.args.forests.now c.args.lefts.now c.args.rights.now c.loop-front.front c.loop-front.front s in omega (arith, l)) }

pub returns-after-loop-front : goal.returns-after-loop-front
returns-after-loop-front c =
    let i = c.loop-front.invariant in
    record { left = i.left; right = i.right; same = i.same; ends = λ s. absurd (let l = left-within c.args.forests.now c.args.lefts.now c.args.rights.now c.loop-front.front c.loop-front.front s in omega (arith, l)) }
