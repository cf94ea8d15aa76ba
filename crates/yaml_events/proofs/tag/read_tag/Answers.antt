use Rattle.std.proofs.Common.{Global, ◌≡◌, ◌≢◌, ◌∷◌, ◌++◌, [], List, ℕ, sym, ap, ◌∙◌, arith}
use Rattle.std.specs.Prelude.{Some, None}
use Rattle.std.specs.Cow.{cow_str_bytes}
use Rattle.std.proofs.lemmas.List.Elements.{All-from_get_or}
use Rattle.std.proofs.lemmas.Str.Pattern.{split_parts}
use lib.Pointwise.{bytes_decides}
use Rattle.yaml_text.specs.EventModel.{written_of}
use Rattle.yaml_events.specs.Parts.{IsTagged, EndsTag, IsEncoded}
use Rattle.yaml_events.proofs.Tags.{inner_is, unclosed, mark_or_full, only_full, encoding_of, tag_text}
use Rattle.yaml_events.proofs.Reading.{passed_on}
use Rattle.yaml_events.proofs.tag.read_tag.Goals as goal

pub returns-in_default-split_once : goal.returns-in_default-split_once
returns-in_default-split_once c =
    let s = c.in-Some.ensures.cases in
    let f = split_parts 62 c.in-Some.after.now None c.in_default-split_once.ensures.cases (omega arith) in
    unclosed c.args.text.now c.in-Some.after.now (s.1.1 ∙ ap (λ z. 32 ∷ 60 ∷ z) (sym s.2)) (All-from_get_or (λ b. b ≢ 62) c.in-Some.after.now 0 f)

pub returns-then-eq : goal.returns-then-eq
returns-then-eq c =
    let s = c.in-Some.ensures.cases in
    let inner : List ℕ = c.in-Some-split_once.inner.now in
    let rest : List ℕ = c.in-Some-split_once.rest.now in
    let text : List ℕ = c.args.text.now in
    let e : text ≡ 32 ∷ 60 ∷ c.in-Some.after.now = s.1.1 ∙ ap (λ z. 32 ∷ 60 ∷ z) (sym s.2) in
    let f = split_parts 62 c.in-Some.after.now (Some (c.in-Some-split_once.inner, c.in-Some-split_once.rest)) c.in-Some-split_once.ensures.cases (omega arith) in
    let m : inner ≡ 33 ∷ [] = (bytes_decides inner (33 ∷ [])).0 (sym c.if-eq.ensures) in (
      (tt, e ∙ ap (λ z. 32 ∷ 60 ∷ z) (f.0 ∙ ap (λ z. z ++ (62 ∷ rest)) m)),
      λ a p. let i = inner_is text c.in-Some.after.now inner rest e f.0 (All-from_get_or (λ b. b ≢ 62) inner 0 f.1) a p in λ z. (mark_or_full a.0 inner m i.0 z, i.1 z),
    )

pub returns-in_err-tag : goal.returns-in_err-tag
returns-in_err-tag c =
    let s = c.in-Some.ensures.cases in
    let inner : List ℕ = c.in-Some-split_once.inner.now in
    let rest : List ℕ = c.in-Some-split_once.rest.now in
    let text : List ℕ = c.args.text.now in
    let e : text ≡ 32 ∷ 60 ∷ c.in-Some.after.now = s.1.1 ∙ ap (λ z. 32 ∷ 60 ∷ z) (sym s.2) in
    let f = split_parts 62 c.in-Some.after.now (Some (c.in-Some-split_once.inner, c.in-Some-split_once.rest)) c.in-Some-split_once.ensures.cases (omega arith) in
    passed_on (IsTagged text) (λ p. IsTagged text p × EndsTag p) (λ r. (written_of r.0, r.1.now)) (IsEncoded inner) (IsEncoded inner) (cow_str_bytes {Z = Global}) c.from_residual.result c.in_err-tag.field-0.0
    c.from_residual.ensures.1 c.in_err-tag.ensures
    (λ a p. let i = inner_is text c.in-Some.after.now inner rest e f.0 (All-from_get_or (λ b. b ≢ 62) inner 0 f.1) a p in encoding_of a.0 inner c.if-eq.ensures i.0)

pub returns : goal.returns
returns c =
    let s = c.in-Some.ensures.cases in
    let inner : List ℕ = c.in-Some-split_once.inner.now in
    let rest : List ℕ = c.in-Some-split_once.rest.now in
    let text : List ℕ = c.args.text.now in
    let e : text ≡ 32 ∷ 60 ∷ c.in-Some.after.now = s.1.1 ∙ ap (λ z. 32 ∷ 60 ∷ z) (sym s.2) in
    let f = split_parts 62 c.in-Some.after.now (Some (c.in-Some-split_once.inner, c.in-Some-split_once.rest)) c.in-Some-split_once.ensures.cases (omega arith) in
    let tag : List ℕ = cow_str_bytes c.in_ok-tag.tag in
    let d = c.in_ok-tag.ensures in (
      (d.0.0, tag_text text c.in-Some.after.now inner rest tag e f.0 d.0),
      λ a p. let i = inner_is text c.in-Some.after.now inner rest e f.0 (All-from_get_or (λ b. b ≢ 62) inner 0 f.1) a p in λ z. (only_full tag a.0 inner c.if-eq.ensures d.1 i.0 z, i.1 z),
    )
