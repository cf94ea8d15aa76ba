use Rattle.std.proofs.Common.{◌≡◌, [], ◌∷◌, ◌++◌, length, map, sym, ◌∙◌, ap, subst, arith}
use Rattle.std.specs.List.{All}
use Rattle.std.specs.String.{string_bytes}
use Rattle.yaml_store.specs.declared.tags.Part.{Part}
use Rattle.yaml_store.specs.TagTexts.{part_of, IsPart}
use Rattle.yaml_store.proofs.TagParts.{all-grown, parts-more, texts-more}
use Rattle.yaml_store.proofs.tags.Tags.push.Goals as goal

pub invariant_of-self : goal.invariant_of-self
invariant_of-self c = subst (λ text. All (IsPart text) c.self.inside.parts.items) (sym c.in_err-push_str.ensures.bytes) c.self.invariant

pub invariant_of-self-in_err-push : goal.invariant_of-self-in_err-push
invariant_of-self-in_err-push c =
    let text = string_bytes c.self.inside.text in
    let spans = c.self.inside.parts.items in
    let grown = subst (λ z. All (IsPart z) spans) (sym c.in_ok-push_str.ensures.bytes) (all-grown text c.args.tag.now spans c.self.invariant) in
    subst (All (IsPart (string_bytes c.push_str.new.self))) (sym c.in_err-push.ensures.items) grown

pub invariant_of-self-2 : goal.invariant_of-self-2
invariant_of-self-2 c =
    let text = string_bytes c.self.inside.text in
    let tag = c.args.tag.now in
    let spans = c.self.inside.parts.items in
    let s : Part = record { start = c.len-start.result; end = c.len-end.result } in
    let e : s.start ≡ length text = omega (arith, c.len-start.ensures, c.self.inside.text.bytes.ok.0) in
    let q : s.end ≡ length (text ++ tag) = omega (arith, c.len-end.ensures, c.push_str.new.self.bytes.ok.0, ap length c.in_ok-push_str.ensures.bytes) in
    subst (All (IsPart (string_bytes c.push_str.new.self))) (sym c.in_ok-push.ensures.items) (subst (λ z. All (IsPart z) (spans ++ (s ∷ []))) (sym c.in_ok-push_str.ensures.bytes) (parts-more text tag spans s c.self.invariant e q c.utf8.tag))

pub returns-clause-pushed : goal.returns-clause-pushed
returns-clause-pushed c =
    let text = string_bytes c.self.inside.text in
    let tag = c.args.tag.now in
    let spans = c.self.inside.parts.items in
    let s : Part = record { start = c.len-start.result; end = c.len-end.result } in
    let e : s.start ≡ length text = omega (arith, c.len-start.ensures, c.self.inside.text.bytes.ok.0) in
    let q : s.end ≡ length (text ++ tag) = omega (arith, c.len-end.ensures, c.push_str.new.self.bytes.ok.0, ap length c.in_ok-push_str.ensures.bytes) in
    (λ z. map (part_of (c.in_ok-push_str.ensures.bytes z)) (c.in_ok-push.ensures.items z)) ∙ (texts-more text tag spans s c.self.invariant e q ∙ ap (λ z. z ++ (tag ∷ [])) c.self.view_is)
