use Rattle.yaml_store_rank.specs.Forests.{held_shown}
use Rattle.yaml_store_rank.proofs.ForestTrees.{tree-held, parts-within}
use Rattle.yaml_show.proofs.source.SourceForestsRankedNodesNodeId.node.Goals as goal

pub returns-clause-tree : goal.returns-clause-tree
returns-clause-tree c = tree-held c.args.self.now.forests.now c.laws.ensures c.args.id.0 (held_shown c.node.result) c.node.ensures

pub returns-clause-within : goal.returns-clause-within
returns-clause-within c = parts-within c.args.self.now.forests.now c.laws.ensures c.args.id.0 (held_shown c.node.result) c.requires.within c.node.ensures
