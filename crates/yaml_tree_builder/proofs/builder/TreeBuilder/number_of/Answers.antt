use Rattle.yaml_tree_builder.specs.BuilderModel.{Holds}
use Rattle.yaml_tree_builder.proofs.BuilderLaws.{holds-tagged}
use Rattle.yaml_tree_builder.proofs.builder.TreeBuilder.number_of.Goals as goal

pub returns : goal.returns
returns c = λ s h k g t.
    let self = c.args.self.now in
    let new = c.tag.new.self in
    let held : Holds (record self { store = new }) s = holds-tagged self s new (c.in_ok-number.ensures.kept h.good.store) h c.in_ok-number.ensures.nodes in
    (record { tag = c.args.tag.now; is = t; at = c.in_ok-number.ensures.is }, held)
