use Rattle.std.proofs.Common.{◌+◌, [], ◌∷◌, length, length-append, ◌∙◌, ap}
use Rattle.yaml_tree.specs.Levels.{level_of, total}
use Rattle.yaml_tree.proofs.LevelsLaws.{level-empty, total-empty}
use Rattle.yaml_store_rank.proofs.levels.reach.Goals as goal

pub loop-preserved : goal.loop-preserved
loop-preserved c =
    let old = c.loop.levels.items in
    let v = c.new.result in
    let e = c.in_ok-push.ensures.items in
    let before = c.loop.invariant in (
      ap length e ∙ (length-append old (v ∷ []) ∙ ap (λ n. n + 1) before.0),
      λ k. ap (λ z. level_of z k) e ∙ (level-empty old v c.new.ensures.items k ∙ before.1 k),
      ap total e ∙ (total-empty old v c.new.ensures.items ∙ before.2),
    )
