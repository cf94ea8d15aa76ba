use Rattle.std.proofs.Common.{sym, ◌∙◌, ap, subst}
use Rattle.std.specs.Prelude.{option_map}
use Rattle.yaml_store_rank.specs.Forests.{tree}
use Rattle.review_folds.specs.Labels.{table, AreEach}
use Rattle.review_folds.proofs.NameLaws.{or_first, or_other}
use Rattle.review_folds.proofs.names.name_of.Goals as goal

pub returns-in-Some : goal.returns-in-Some
returns-in-Some c are =
    let e = c.first_name.ensures table (subst (AreEach c.args.forests.now table) (sym c.deref.ensures.value) are.each) in
    or_first _ _ _ (ap (option_map (λ name. (name.0.now, tree c.args.forests.now name.1.0))) (sym c.in-Some.is) ∙ e)

pub returns-in-None : goal.returns-in-None
returns-in-None c are =
    let e = c.first_name.ensures table (subst (AreEach c.args.forests.now table) (sym c.deref.ensures.value) are.each) in
    c.metadata_name.ensures are ∙ or_other _ _ (ap (option_map (λ name. (name.0.now, tree c.args.forests.now name.1.0))) (sym c.in-None.is) ∙ e)
