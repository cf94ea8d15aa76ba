use Rattle.std.proofs.Common.{sym, ◌∙◌}
use Rattle.yaml_store_rank.specs.Forests.{tree}
use Rattle.yaml_spell.proofs.ShownLaws.{short-is}
use Rattle.yaml_show.proofs.source.SourceForestsRankedNodesNodeId.short_len.Goals as goal

pub returns : goal.returns
returns c = record { is = c.short_len.ensures ∙ sym (short-is (λ i. i.0) (tree c.args.self.now.forests.now) _ _ _ c.node.ensures.tree) }
