use Rattle.std.proofs.Common.{[], ◌∷◌, refl}
use Rattle.yaml_tree_builder.specs.BuilderModel.{end_of}
use Rattle.yaml_tree_builder.proofs.JudgedLaws.{puts-refused, puts-stepped}
use Rattle.yaml_tree_builder.proofs.judged.Judged.end.Goals as goal

pub returns-in-Some : goal.returns-in-Some
returns-in-Some c = puts-refused c.args.self.now c.in-Some.field-0 (end_of c.args.collection ∷ []) c.in-Some.is

pub returns : goal.returns
returns c = puts-stepped c.args.self.now _ (end_of c.args.collection) c.in_default.is refl c.in_ok-end.ensures
