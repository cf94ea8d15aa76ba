use Rattle.std.proofs.Common.{[], ◌∷◌, ◌++◌, ◌∙◌, ap, sym}
use Rattle.yaml_tree.proofs.LevelsLaws.{levels-more}
use Rattle.yaml_tree.proofs.Numbering.{get-there}
use Rattle.yaml_store.specs.StoreModel.{height_at, node_height}
use Rattle.yaml_store_rank.proofs.levels.levels.Goals as goal

pub loop-number-preserved : goal.loop-number-preserved
loop-number-preserved c =
    let i = c.loop-number.number in
    let nodes = c.args.nodes.now in
    levels-more (height_at nodes) i c.loop-number.levels.items c.reach.new.levels.items c.loop-number.invariant _ (sym (ap node_height (get-there nodes i _ c.loop-number-test.true))) c.in_ok-reach.ensures.ok c.push.new.self _ (c.in_ok-push.ensures.items ∙ ap (λ z. z.items ++ (i ∷ [])) c.index_mut.ensures.value)
