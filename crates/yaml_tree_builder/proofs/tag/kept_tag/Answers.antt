use Rattle.std.proofs.Common.{sym}
use Rattle.yaml_definitions.specs.model.Core.{resolve}
use Rattle.yaml_tree_builder.proofs.TagLaws.{kept-is}
use Rattle.yaml_tree_builder.proofs.tag.kept_tag.Goals as goal

pub returns-in-Kept-clause-keeps : goal.returns-in-Kept-clause-keeps
unfolding resolve
returns-in-Kept-clause-keeps c = λ y x. kept-is c.as_str-text.result.now x (sym c.in-Kept.ensures)
