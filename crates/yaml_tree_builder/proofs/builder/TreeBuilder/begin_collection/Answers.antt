use Rattle.yaml_text.specs.EventModel.{written_of}
use Rattle.yaml_sink.specs.PropertyRules.{props_in}
use Rattle.yaml_tree_builder.specs.TagModel.{collection_number}
use Rattle.yaml_tree_builder.proofs.TagLaws.{default-is}
use Rattle.yaml_tree_builder.proofs.builder.TreeBuilder.begin_collection.Goals as goal

pub returns : goal.returns
returns c = λ s h flow.
    let p = props_in c.args.given.now in
    let b = c.in_ok-place.ensures s h in
    c.in_ok-begin_bare.ensures p.anchor s b.0 b.1 (written_of c.args.given.now.tag) (default-is (collection_number c.args.collection) c.args.given.now.tag c.in_default.not-Full) flow
