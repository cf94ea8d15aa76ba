use Rattle.std.proofs.Common.{sym, ◌∙◌, subst}
use Rattle.review_reports.specs.Names.{IsNext}
use Rattle.review_reports.proofs.NameLaws.{begun, next_both}
use Rattle.review_reports.proofs.folder_names.next_of.Goals as goal

pub returns-in-Some-first-clause-some : goal.returns-in-Some-first-clause-some
returns-in-Some-first-clause-some c =
    next_both c.args.left.now c.args.right.now c.in-Some.one.now c.in-Some-first.other.now c.as_str.result.now c.as_str-in-Some-first.result.now c.nearer.result.has c.nearer.result.name.now
    (sym c.in-Some.ensures.value) (sym c.in-Some-first.ensures.value) c.as_str.ensures.value c.as_str-in-Some-first.ensures.value c.nearer.ensures

pub returns-in-None-first-clause-some : goal.returns-in-None-first-clause-some
returns-in-None-first-clause-some c =
    subst (λ z. IsNext c.args.left.now c.args.right.now z c.entry.result.name.now) (sym c.entry.ensures.has)
    (begun c.args.left.now c.in-Some.one.now c.entry.result.name.now (sym c.in-Some.ensures.value) (c.entry.ensures.name ∙ c.as_str-in-None-first.ensures.value))

pub returns-in-Some-first-2-clause-some : goal.returns-in-Some-first-2-clause-some
returns-in-Some-first-2-clause-some c =
    subst (λ z. IsNext c.args.left.now c.args.right.now z c.entry-in-Some-first-2.result.name.now) (sym c.entry-in-Some-first-2.ensures.has)
    (begun c.args.right.now c.in-Some-first-2.other.now c.entry-in-Some-first-2.result.name.now (sym c.in-Some-first-2.ensures.value) (c.entry-in-Some-first-2.ensures.name ∙ c.as_str-in-Some-first-2.ensures.value))
