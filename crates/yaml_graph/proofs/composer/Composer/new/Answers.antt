use Rattle.yaml_graph.proofs.ComposerLaws.{held-start}
use Rattle.yaml_graph.proofs.composer.Composer.new.Goals as goal

pub returns : goal.returns
returns c =
    held-start c.new.result.items c.new-2.result.items c.new-3.result c.new-4.result.items c.new-5.result.items c.new-6.result.items c.new.ensures.items c.new-2.ensures.items c.new-3.ensures.empty c.new-4.ensures.items c.new-5.ensures.items c.new-6.ensures.items
