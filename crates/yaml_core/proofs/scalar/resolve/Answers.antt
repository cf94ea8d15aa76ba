use Rattle.std.proofs.Common.{◌≡◌, Ok, refl, sym, ◌∙◌, ap, subst, inl, inr}
use Rattle.std.specs.Prelude.{MatchResult}
use Rattle.std.specs.Cow.{cow_str_bytes}
use Rattle.yaml_definitions.specs.model.Tag.{str_tag}
use Rattle.yaml_definitions.specs.model.Event.{untagged}
use Rattle.yaml_text.specs.EventModel.{written_of, style_of}
use Rattle.yaml_definitions.specs.model.Core.{Resolved, resolve, by_table, by_tag}
use Rattle.yaml_core.specs.CoreAnswer.{RefusesScalar}
use Rattle.yaml_core.proofs.scalar.resolve.Goals as goal

pub returns-in-Plain-clause-means : goal.returns-in-Plain-clause-means
unfolding resolve
returns-in-Plain-clause-means c =
    let P : Resolved → Type 0 = λ r. MatchResult c.by_table.result (λ s. r ≡ Ok (cow_str_bytes s.tag, cow_str_bytes s.content)) (RefusesScalar r) in
    let x = c.args.text.now in
    let e : resolve (written_of c.args.tag.now) (style_of c.args.style) x ≡ by_table x = λ i. resolve (written_of (c.in-None.is i)) (style_of (c.in-Plain.is i)) x in
    subst P (sym e) c.by_table.ensures.means

pub returns-in-Plain-clause-kept : goal.returns-in-Plain-clause-kept
unfolding resolve
returns-in-Plain-clause-kept c =
    let x = c.args.text.now in
    let e : resolve (written_of c.args.tag.now) (style_of c.args.style) x ≡ by_table x = λ i. resolve (written_of (c.in-None.is i)) (style_of (c.in-Plain.is i)) x in
    λ g n h. c.by_table.ensures.kept g n (sym e ∙ h)

pub returns-in-Single : goal.returns-in-Single
unfolding resolve
returns-in-Single c =
    let x = c.args.text.now in
    let e : resolve (written_of c.args.tag.now) (style_of c.args.style) x ≡ Ok (str_tag, x) =
    ap (λ t. resolve (written_of t) (style_of c.args.style) x) c.in-None.is
    ∙ elim c.in-Single.is [
      | inl p ↦ ap (λ y. resolve untagged (style_of y) x) p
      | inr q ↦ elim q [ inl p ↦ ap (λ y. resolve untagged (style_of y) x) p | inr r ↦ elim r [ inl p ↦ ap (λ y. resolve untagged (style_of y) x) p | inr p ↦ ap (λ y. resolve untagged (style_of y) x) p ] ]
    ] in
    record { means = e ∙ sym (λ i. Ok ((c.kept.ensures.tag ∙ c.tag.ensures) i, c.kept.ensures.content i)); kept = λ g n h. refl }

pub returns-in-NonSpecific-clause-means : goal.returns-in-NonSpecific-clause-means
unfolding resolve
returns-in-NonSpecific-clause-means c =
    let x = c.args.text.now in
    ap (λ t. resolve (written_of t) (style_of c.args.style) x) c.in-NonSpecific.is
    ∙ sym (λ i. Ok ((c.kept-in-NonSpecific.ensures.tag ∙ c.tag-in-NonSpecific.ensures) i, c.kept-in-NonSpecific.ensures.content i))

pub returns-in-Full-clause-means : goal.returns-in-Full-clause-means
unfolding resolve
returns-in-Full-clause-means c =
    let P : Resolved → Type 0 = λ r. MatchResult c.by_tag.result (λ s. r ≡ Ok (cow_str_bytes s.tag, cow_str_bytes s.content)) (RefusesScalar r) in
    let x = c.args.text.now in
    let e : resolve (written_of c.args.tag.now) (style_of c.args.style) x ≡ by_tag c.as_str.result.now x =
    ap (λ t. resolve (written_of t) (style_of c.args.style) x) c.in-Full.is ∙ ap (λ g. by_tag g x) (sym c.as_str.ensures.value) in
    subst P (sym e) c.by_tag.ensures.means

pub returns-in-Full-clause-kept : goal.returns-in-Full-clause-kept
unfolding resolve
returns-in-Full-clause-kept c =
    let x = c.args.text.now in
    let e : resolve (written_of c.args.tag.now) (style_of c.args.style) x ≡ by_tag c.as_str.result.now x =
    ap (λ t. resolve (written_of t) (style_of c.args.style) x) c.in-Full.is ∙ ap (λ g. by_tag g x) (sym c.as_str.ensures.value) in
    λ g n h. c.by_tag.ensures.kept g n (sym e ∙ h)
