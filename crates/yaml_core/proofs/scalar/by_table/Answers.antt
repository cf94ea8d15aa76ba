use Rattle.std.proofs.Common.{Ok, sym, ◌∙◌, ap, subst}
use Rattle.std.specs.Cow.{cow_str_bytes}
use Rattle.yaml_core.specs.CoreAnswer.{RefusesScalar}
use Rattle.yaml_core.specs.Form.{form_kind}
use Rattle.yaml_core.specs.Kind.{of_kind}
use Rattle.yaml_core.proofs.ResolveLemmas.{table_is, kept_kind}
use Rattle.yaml_core.proofs.scalar.by_table.Goals as goal

pub returns-in-Err-clause-means : goal.returns-in-Err-clause-means
returns-in-Err-clause-means c =
    let x = c.args.text.now in
    let e = table_is x ∙ ap (λ f. of_kind (form_kind f) x) (sym c.judge-form.ensures) ∙ ap (λ k. of_kind k x) (sym c.kind-kind.ensures) in
    subst (λ r. RefusesScalar r c.in-Err.fault) (sym e) c.in-Err.ensures.means

pub returns-in-Err-clause-kept : goal.returns-in-Err-clause-kept
returns-in-Err-clause-kept c =
    let x = c.args.text.now in
    let e = table_is x ∙ ap (λ f. of_kind (form_kind f) x) (sym c.judge-form.ensures) ∙ ap (λ k. of_kind k x) (sym c.kind-kind.ensures) in
    λ g n h. c.in-Err.ensures.kept (kept_kind c.kind-kind.result g x x n (sym e ∙ h))

pub returns-in-Ok-clause-means : goal.returns-in-Ok-clause-means
returns-in-Ok-clause-means c =
    let x = c.args.text.now in
    let e = table_is x ∙ ap (λ f. of_kind (form_kind f) x) (sym c.judge-form.ensures) ∙ ap (λ k. of_kind k x) (sym c.kind-kind.ensures) in
    e ∙ (c.in-Ok.ensures.means ∙ ap (λ t. Ok (t, cow_str_bytes c.in-Ok.content)) (sym c.tag.ensures))
