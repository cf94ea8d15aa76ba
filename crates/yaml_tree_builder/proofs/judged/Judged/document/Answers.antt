use Rattle.std.proofs.Common.{[], ◌∷◌, refl}
use Rattle.yaml_definitions.specs.model.Event.{document_start}
use Rattle.yaml_tree_builder.proofs.JudgedLaws.{puts-refused, puts-stepped}
use Rattle.yaml_tree_builder.proofs.judged.Judged.document.Goals as goal

pub returns-in-Some : goal.returns-in-Some
returns-in-Some c = λ explicit. puts-refused c.args.self.now c.in-Some.field-0 (document_start explicit ∷ []) c.in-Some.is

pub returns : goal.returns
returns c = λ explicit. puts-stepped c.args.self.now _ (document_start explicit) c.in_default.is refl (λ s h. c.in_ok-document.ensures s h explicit)
