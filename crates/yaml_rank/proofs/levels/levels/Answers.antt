use Rattle.std.proofs.Common.{[], ◌∷◌, ◌++◌, ◌∙◌, ap}
use Rattle.yaml_definitions.specs.model.Tree.{height}
use Rattle.yaml_graph.specs.GraphView.{tree}
use Rattle.yaml_tree.proofs.LevelsLaws.{levels-none, levels-more}
use Rattle.yaml_rank.proofs.levels.levels.Goals as goal

pub loop-number-init : goal.loop-number-init
loop-number-init c = levels-none (λ i. height (tree c.args.graph.now i)) c.new-levels.result.items c.new-levels.ensures.items

pub loop-number-preserved : goal.loop-number-preserved
loop-number-preserved c =
    let i = c.loop-number.number in
    levels-more (λ i. height (tree c.args.graph.now i)) i c.loop-number.levels.items c.reach.new.levels.items c.loop-number.invariant c.height-height.result c.height-height.ensures c.in_ok-reach.ensures.ok c.push.new.self _ (c.in_ok-push.ensures.items ∙ ap (λ z. z.items ++ (i ∷ [])) c.index_mut.ensures.value)
