use Rattle.std.proofs.Common.{Ok, sym, ◌∙◌, ap}
use Rattle.yaml_definitions.specs.model.Core.{collection_tag}
use Rattle.yaml_sink.specs.PropertyRules.{props_given}
use Rattle.yaml_tree_builder.specs.TagModel.{collection_number}
use Rattle.yaml_tree_builder.proofs.tag.tag_given.Goals as goal

pub returns-in-None : goal.returns-in-None
unfolding collection_tag
returns-in-None c = ap (λ g. collection_tag (collection_number c.args.collection) (props_given g).tag) c.in-None.is ∙ ap Ok (sym c.default_tag.ensures)
