use Rattle.std.proofs.Common.{sym, ◌∙◌, ap}
use Rattle.std.specs.Prelude.{Some}
use Rattle.review_folds.specs.Labels.{left_below, left_documents}
use Rattle.review_folds.proofs.LeftLaws.{document_there}
use Rattle.review_folds.proofs.left.document_at.Goals as goal

pub returns-in-Some : goal.returns-in-Some
returns-in-Some c =
    let f = c.args.forests.now in
    document_there f c.in-Item.places c.in-Some.place c.left_document.result (sym c.in-Some.is ∙ c.left.ensures) c.left_document.ensures ∙ ap (left_below f (Some (left_documents f))) (sym c.in-Item.is)
