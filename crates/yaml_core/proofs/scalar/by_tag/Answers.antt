use Rattle.std.proofs.Common.{Ok, sym, ◌∙◌, ap, subst}
use Rattle.std.specs.Cow.{cow_str_bytes}
use Rattle.yaml_definitions.specs.model.Core.{wrong_kind}
use Rattle.yaml_definitions.proofs.CoreLaws.{wrong}
use Rattle.yaml_core.specs.CoreAnswer.{RefusesScalar}
use Rattle.yaml_core.specs.declared.tag.TagUse.{TagUse}
use Rattle.yaml_core.proofs.ResolveLemmas.{UsedBy, tag_is, kept_kind}
use Rattle.yaml_core.proofs.scalar.by_tag.Goals as goal

pub returns-in-Err-clause-means : goal.returns-in-Err-clause-means
returns-in-Err-clause-means c =
    let P : TagUse → Type 0 = λ u. UsedBy u c.args.tag.now c.args.text.now in
    let u = subst P (sym c.in-Judged.ensures) (tag_is c.args.tag.now c.args.text.now) in
    subst (λ r. RefusesScalar r c.in-Err.fault) (sym u.0) c.in-Err.ensures.means

pub returns-in-Err-clause-kept : goal.returns-in-Err-clause-kept
returns-in-Err-clause-kept c =
    let P : TagUse → Type 0 = λ u. UsedBy u c.args.tag.now c.args.text.now in
    let u = subst P (sym c.in-Judged.ensures) (tag_is c.args.tag.now c.args.text.now) in
    λ g n h. c.in-Err.ensures.kept (kept_kind c.in-Judged.kind g c.args.text.now c.args.text.now n (sym u.0 ∙ h))

pub returns-in-Ok-clause-means : goal.returns-in-Ok-clause-means
returns-in-Ok-clause-means c =
    let P : TagUse → Type 0 = λ u. UsedBy u c.args.tag.now c.args.text.now in
    let u = subst P (sym c.in-Judged.ensures) (tag_is c.args.tag.now c.args.text.now) in
    u.0 ∙ (c.in-Ok.ensures.means ∙ ap (λ t. Ok (t, cow_str_bytes c.in-Ok.content)) (sym u.1))

pub returns-in-Collection-clause-means : goal.returns-in-Collection-clause-means
returns-in-Collection-clause-means c =
    let P : TagUse → Type 0 = λ u. UsedBy u c.args.tag.now c.args.text.now in
    subst P (sym c.in-Collection.ensures) (tag_is c.args.tag.now c.args.text.now)

pub returns-in-Collection-clause-kept : goal.returns-in-Collection-clause-kept
returns-in-Collection-clause-kept c =
    let P : TagUse → Type 0 = λ u. UsedBy u c.args.tag.now c.args.text.now in
    λ g n h. absurd (wrong g c.args.text.now wrong_kind (sym (subst P (sym c.in-Collection.ensures) (tag_is c.args.tag.now c.args.text.now)) ∙ h))

pub returns-in-Kept-clause-means : goal.returns-in-Kept-clause-means
returns-in-Kept-clause-means c =
    let P : TagUse → Type 0 = λ u. UsedBy u c.args.tag.now c.args.text.now in
    subst P (sym c.in-Kept.ensures) (tag_is c.args.tag.now c.args.text.now) ∙ sym (λ i. Ok (c.kept.ensures.tag i, c.kept.ensures.content i))
