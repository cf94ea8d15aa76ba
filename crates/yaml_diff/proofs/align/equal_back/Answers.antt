use Rattle.std.proofs.Common.{◌-◌, sym, ◌∙◌, arith}
use Rattle.yaml_diff.proofs.AlignLaws.{same-here, here-same, back-next, back-done}
use Rattle.yaml_diff.proofs.align.equal_back.Goals as goal
use Rattle.yaml_diff.proofs.align.equal_back.Goals.{then-loop-left-test+then-right-front+else-rank, then-loop-left-test+else-right-front, else-loop-left-test}

pub loop-left-preserved : goal.loop-left-preserved
loop-left-preserved c =
    let r = c.args.forests.now in
    let xs = c.args.lefts.now in
    let ys = c.args.rights.now in
    let i = c.loop-left.invariant in
    let left = c.loop-left.left in
    let right = c.loop-left.right in
    let s = same-here r xs ys (left - 1) (right - 1) (omega (arith, i.left)) (omega (arith, i.right)) (sym c.rank.ensures ∙ c.if-rank.true ∙ c.rank-then-right-front.ensures) in
    record {
      left = omega (arith, i.left);
      right = omega (arith, i.right);
      onward = omega arith;
      onward_too = omega arith;
      level = omega (arith, i.level);
      same = back-next r xs ys left right (omega arith) (omega arith) i.left i.right i.level s i.same;
    }

pub returns : goal.returns
returns c =
    let r = c.args.forests.now in
    let xs = c.args.lefts.now in
    let ys = c.args.rights.now in
    let i = c.loop-left.invariant in
    let left = c.loop-left.left in
    let right = c.loop-left.right in
    back-done r xs ys c.args.front left right i.left i.right i.onward i.onward_too i.level i.same (λ a b s. elim c.loop-left-test.branch [
      | then-loop-left-test+then-right-front+else-rank w ↦ w.if-rank.false (w.rank.ensures ∙ here-same r xs ys (left - 1) (right - 1) s ∙ sym w.rank-then-right-front.ensures)
      | then-loop-left-test+else-right-front w ↦ absurd (omega (arith, b, w.if-right-front.false))
      | else-loop-left-test w ↦ absurd (omega (arith, a, w.loop-left-test.false))
    ])
