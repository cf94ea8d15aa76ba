use Rattle.std.proofs.Common.{◌≡◌, ℕ, ◌+◌, List, ◌++◌, codes, string_bytes, refl, ◌∙◌, ap, subst, append_assoc}
use Rattle.std.specs.Prelude.{Option, Some, None, IfSome}
use Rattle.std.specs.Fmt.{decimal}
use Rattle.yaml_definitions.specs.model.Text.{mark_len}
use Rattle.yaml_path.specs.declared.place.Place.{Place}
use Rattle.review_faults.specs.Explained.{IsExplained, shown_place}
use Rattle.review_faults.specs.FaultLines.{byte_part, called}
use Rattle.review_faults.specs.Heads.{head}
use Rattle.review_faults.proofs.faults.put_lines.Goals as goal

same_byte : (place : Option Place) (a b : ℕ) → IfSome place (λ _. a ≡ b) → byte_part place a ≡ byte_part place b
same_byte None a b h = refl
same_byte (Some p) a b h = ap (λ z. codes " at byte " ++ decimal z) h

joined : (a h c b s m : List ℕ) → ((((a ++ h) ++ c) ++ b) ++ s) ++ m ≡ a ++ (h ++ (c ++ (b ++ (s ++ m))))
joined a h c b s m =
    append_assoc (((a ++ h) ++ c) ++ b) s m ∙ append_assoc ((a ++ h) ++ c) b (s ++ m) ∙ append_assoc (a ++ h) c (b ++ (s ++ m)) ∙ append_assoc a h (c ++ (b ++ (s ++ m)))

pub returns : goal.returns
returns c = record {
  ok = (
      let name = c.args.name.now in
      let place = c.args.told.now.place in
      let byte = mark_len c.args.bytes.now + c.args.told.now.at in
      let more = string_bytes c.in_ok-more.more in
      let front = head name (shown_place c.args.told.now) in
      let called = called c.args.fault in
      let part = byte_part place byte in
      let mark = codes ": " in
      let headed = c.in_ok-put_head.ensures.ok ∙ ap (λ z. string_bytes c.args.out.now ++ head name z) c.shown_place.ensures in
      let numbered = c.in_ok-put_called.ensures.ok ∙ ap (λ z. z ++ called) headed in
      let offset = c.in_ok-put_byte.ensures.ok ∙ ap (λ z. z ++ byte_part place c.byte_of.result) numbered ∙ ap (λ z. ((string_bytes c.args.out.now ++ front) ++ called) ++ z) (same_byte place c.byte_of.result byte c.byte_of.ensures) in
      let marked = c.in_ok-push_str.ensures.bytes ∙ ap (λ z. z ++ mark) offset in
      let told = c.in_ok-push_str-2.ensures.bytes ∙ ap (λ z. string_bytes c.push_str.new.self ++ z) c.as_str.ensures.value ∙ ap (λ z. z ++ more) marked in (
        front ++ (called ++ (part ++ (mark ++ more))),
        told ∙ joined (string_bytes c.args.out.now) front called part mark more,
        (more, subst (λ z. IsExplained name z c.args.told.now more) c.unmarked.ensures c.in_ok-more.ensures.ok, refl),
      ));
}
