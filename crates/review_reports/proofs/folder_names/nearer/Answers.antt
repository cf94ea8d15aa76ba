use Rattle.std.proofs.Common.{sym, ◌∙◌, subst}
use Rattle.review_reports.specs.Names.{IsNearer}
use Rattle.review_reports.proofs.NameLaws.{equal_texts}
use Rattle.review_reports.proofs.folder_names.nearer.Goals as goal

pub returns-in-Equal : goal.returns-in-Equal
returns-in-Equal c =
    let name = c.entry-in-Equal.ensures.name in
    let same = equal_texts c.args.left.now c.args.right.now (sym c.cmp.ensures ∙ c.in-Equal.is) in
    subst (λ z. IsNearer c.args.left.now c.args.right.now z c.entry-in-Equal.result.name.now) (sym c.entry-in-Equal.ensures.has) (name, name ∙ same)
