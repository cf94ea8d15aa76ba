use Rattle.std.proofs.Common.{◌≡◌, ◌<◌, ◌≤◌, ◌+◌, List, [], ℕ, ◌++◌, sym, ap, ◌∙◌, subst, length, append_assoc}
use Rattle.std.proofs.lemmas.Result.{on_ok_weaker, on_err_weaker}
use Rattle.std.specs.Prelude.{codes}
use Rattle.yaml_definitions.specs.canonical.TagText.{encoded}
use Rattle.yaml_text.specs.EventModel.{written_of}
use Rattle.yaml_definitions.specs.model.EventText.{tag_part}
use Rattle.yaml_events.proofs.Pushes.{at_error}
use Rattle.yaml_events.proofs.Room.{full_first, full_next}
use Rattle.yaml_events.proofs.TagText.{encoded_then}
use Rattle.yaml_events.proofs.tag.push_tag.Goals as goal

regroup : (out a b c : List ℕ) → ((out ++ a) ++ b) ++ c ≡ out ++ (a ++ (b ++ c))
regroup out a b c = append_assoc (out ++ a) b c ∙ append_assoc out a (b ++ c)

-- no room behind the first bracket
opened : (room more : ℕ) (s t g h : List ℕ) → t ≡ s ++ codes " <" → room ≤ more → g ≡ h → more < length t + length (encoded g [] ++ codes ">") → room < length s + length (codes " <" ++ encoded h (codes ">"))
opened room more s t g h e k f l =
    full_next room more s t (codes " <") (encoded h (codes ">")) e k (subst (λ z. more < length t + length z) (encoded_then g (codes ">") ∙ ap (λ z. encoded z (codes ">")) f) l)

pub returns-in_ok-push_encoded-in-Full-clause-ok : goal.returns-in_ok-push_encoded-in-Full-clause-ok
returns-in_ok-push_encoded-in-Full-clause-ok h c =
    let old : List ℕ = h.S.Sink.bytes c.args.out.now in
    let g : List ℕ = c.as_str.result.now in
    on_ok_weaker c.put-in-Full-2.result (λ e. e ∙ ap (λ x. x ++ codes ">") (c.in_ok-push_encoded-in-Full.ensures.ok ∙ ap (λ x. x ++ encoded g []) c.in_ok-put-in-Full.ensures.ok)
    ∙ regroup old (codes " <") (encoded g []) (codes ">") ∙ ap (λ x. old ++ (codes " <" ++ x)) (encoded_then g (codes ">") ∙ ap (λ x. encoded x (codes ">")) c.as_str.ensures.value)
    ∙ ap (λ x. old ++ tag_part (written_of x)) (sym c.in-Full.is)) c.put-in-Full-2.ensures.ok

pub returns-in_err-push_encoded-in-Full-clause-full : goal.returns-in_err-push_encoded-in-Full-clause-full
returns-in_err-push_encoded-in-Full-clause-full h c =
    let s = c.args.out.now in
    let room = h.S.Sink.room in
    let bytes = h.S.Sink.bytes in
    let g : List ℕ = c.as_str.result.now in
    at_error _ (subst (λ x. room s < length (bytes s) + length (tag_part (written_of x))) (sym c.in-Full.is)
    (opened (room s) (room c.put-in-Full.new.self) (bytes s) (bytes c.put-in-Full.new.self) g _ c.in_ok-put-in-Full.ensures.ok c.in_ok-put-in-Full.ensures.keeps c.as_str.ensures.value
    (full_first _ _ (encoded g []) (codes ">") c.in_err-push_encoded-in-Full.ensures.full)))

pub returns-in_ok-push_encoded-in-Full-clause-full : goal.returns-in_ok-push_encoded-in-Full-clause-full
returns-in_ok-push_encoded-in-Full-clause-full h c =
    let s = c.args.out.now in
    let room = h.S.Sink.room in
    let bytes = h.S.Sink.bytes in
    let t = c.put-in-Full.new.self in
    let u = c.push_encoded.new.out in
    let g : List ℕ = c.as_str.result.now in
    on_err_weaker c.put-in-Full-2.result (λ l. subst (λ x. room s < length (bytes s) + length (tag_part (written_of x))) (sym c.in-Full.is)
    (opened (room s) (room t) (bytes s) (bytes t) g _ c.in_ok-put-in-Full.ensures.ok c.in_ok-put-in-Full.ensures.keeps c.as_str.ensures.value
    (full_next (room t) (room u) (bytes t) (bytes u) (encoded g []) (codes ">") c.in_ok-push_encoded-in-Full.ensures.ok c.in_ok-push_encoded-in-Full.ensures.keeps l))) c.put-in-Full-2.ensures.full
