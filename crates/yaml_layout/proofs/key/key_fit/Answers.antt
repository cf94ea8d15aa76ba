use Rattle.std.proofs.Common.{◌≡◌, ℕ, List, Bool, ◌+◌, ◌<◌, ◌≤◌, ◌⊎◌, ap, sym, ◌∙◌, arith, inl, inr, length, take, drop, length-append}
use Rattle.std.proofs.lemmas.Bool.{cases_lt}
use Rattle.std.specs.Str.{chars}
use Rattle.yaml_text.specs.Place.{place}
use Rattle.std.proofs.Math.Nat.{eq-or-lt_of_le}
use Rattle.std.proofs.lemmas.Str.{IsUtf8-had}
use Rattle.yaml_text.specs.declared.chars.Chars.{Chars}
use Rattle.yaml_text.specs.Source.{text_of, place_of, IsBorder}
use Rattle.yaml_definitions.specs.grammar.Rules.{Stands}
use Rattle.yaml_definitions.specs.grammar.Characters.{is_break}
use Rattle.yaml_text.proofs.PlaceLemmas.{place_less, chars_cut}
use Rattle.yaml_text.proofs.Runs.{all_more, no_stand}
use Rattle.yaml_layout.proofs.key.key_fit.Goals as goal

at_most : (s : Chars) (a b : ℕ) → IsBorder s a → IsBorder s b → a ≤ b → place_of s a ≤ place_of s b
at_most s a b p q l = pick (eq-or-lt_of_le l)
  where
    pick : (a ≡ b) ⊎ (a < b) → place_of s a ≤ place_of s b
    pick (inl e) = let x : place_of s a ≡ place_of s b = ap (place_of s) e in omega (arith, x)
    pick (inr h) = let x : place_of s a < place_of s b = place_less s.text.now a b (IsUtf8-had s.text.now s.utf8) p q h in omega (arith, x)

most : (s : Chars) (at : ℕ) → IsBorder s at → place_of s at ≤ length (text_of s)
unfolding place
most s at p =
    let e : length (text_of s) ≡ length (chars (take at s.text.now)) + length (chars (drop at s.text.now)) = ap length (chars_cut s.text.now at (IsUtf8-had s.text.now s.utf8) p) ∙ length-append (chars (take at s.text.now)) (chars (drop at s.text.now)) in
    omega (arith, e)

-- the character before a border ends there at most
step_within : (s : Chars) (here after to : ℕ) → IsBorder s here → IsBorder s after → IsBorder s to → here < to → place_of s after ≡ place_of s here + 1 → after ≤ to
step_within s here after to p q r l e = pick (cases_lt to after)
  where
    pick : (to < after) ⊎ (after ≤ to) → after ≤ to
    pick (inr h) = h
    pick (inl h) =
        let x : place_of s here < place_of s to = place_less s.text.now here to (IsUtf8-had s.text.now s.utf8) p r l in
        let y : place_of s to < place_of s after = place_less s.text.now to after (IsUtf8-had s.text.now s.utf8) r q h in
        absurd (omega (arith, x, y, e))

-- what stands nowhere in two parts that follow each other
all_then : (cs : List ℕ) (p : ℕ → Bool) (i j k : ℕ) → ((m : ℕ) → i ≤ m → m < j → Stands cs p m → ⊥) → ((m : ℕ) → j ≤ m → m < k → Stands cs p m → ⊥) → (m : ℕ) → i ≤ m → m < k → Stands cs p m → ⊥
all_then cs p i j k h g m a b = pick (cases_lt m j)
  where
    pick : (m < j) ⊎ (j ≤ m) → Stands cs p m → ⊥
    pick (inl l) = h m a l
    pick (inr l) = g m l b

pub chars-init : goal.chars-init
chars-init c = record {
  border = c.requires.from;
  within = c.requires.order;
  few = omega arith;
  counted = omega arith;
  line = λ k a b. absurd (omega (arith, a, b));
}

pub chars-preserved-then-run-here : goal.chars-preserved-then-run-here
chars-preserved-then-run-here c =
    let v = c.chars.invariant in
    let r = c.skip_run-run.ensures in
    record {
      border = r.border;
      within = r.within;
      few = omega (arith, v.few, r.onward);
      counted = omega (arith, v.counted, r.counted, r.onward);
      line = all_then (text_of c.args.source.now) is_break _ _ _ v.line r.line;
    }

pub chars-preserved : goal.chars-preserved
chars-preserved c =
    let s = c.in-Some.ensures.some in
    let v = c.chars.invariant in
    let cs = text_of c.args.source.now in
    record {
      border = s.border;
      within = step_within c.args.source.now c.chars.here c.in-Some.after c.args.to v.border s.border c.requires.to c.chars-test.true s.next;
      few = omega (arith, v.few, s.forward);
      counted = omega (arith, v.counted, s.next);
      line = all_more cs (λ k. Stands cs is_break k → ⊥) _ _ _ v.line (no_stand cs is_break _ _ s.is (sym c.is_break.ensures ∙ c.if-is_break.false)) s.next;
    }

pub returns-else-count-limit : goal.returns-else-count-limit
returns-else-count-limit c =
    let v = c.chars.invariant in
    let x : place_of c.args.source.now c.args.to ≤ place_of c.args.source.now c.chars.here = at_most c.args.source.now c.args.to c.chars.here c.requires.to v.border c.chars-test.false in
    (λ k a b. v.line k a (omega (arith, b, x)), omega (arith, v.counted, x, c.if-count-limit.false, c.key_limit-limit.ensures))

pub returns-then-count-limit : goal.returns-then-count-limit
returns-then-count-limit c =
    let v = c.chars.invariant in
    let x : place_of c.args.source.now c.args.to ≤ place_of c.args.source.now c.chars.here = at_most c.args.source.now c.args.to c.chars.here c.requires.to v.border c.chars-test.false in
    let y : place_of c.args.source.now c.chars.here ≤ place_of c.args.source.now c.args.to = at_most c.args.source.now c.chars.here c.args.to v.border c.requires.to v.within in
    (λ k a b. v.line k a (omega (arith, b, x)), omega (arith, v.counted, y, c.if-count-limit.true, c.key_limit-limit.ensures))

pub returns-in-None : goal.returns-in-None
returns-in-None c = λ line.
    let v = c.chars.invariant in
    let s = c.args.source.now in
    let x : place_of s c.chars.here < place_of s c.args.to = place_less s.text.now c.chars.here c.args.to (IsUtf8-had s.text.now s.utf8) v.border c.requires.to c.chars-test.true in
    let y : place_of s c.args.to ≤ length (text_of s) = most s c.args.to c.requires.to in
    let e : place_of s c.chars.here ≡ length (text_of s) = c.in-None.ensures.end in
    absurd (omega (arith, x, y, e))

pub returns-then-is_break : goal.returns-then-is_break
returns-then-is_break c = λ line.
    let v = c.chars.invariant in
    let s = c.args.source.now in
    line (place_of s c.chars.here) (omega (arith, v.counted)) (place_less s.text.now c.chars.here c.args.to (IsUtf8-had s.text.now s.utf8) v.border c.requires.to c.chars-test.true)
    (_, c.in-Some.ensures.some.is, sym c.is_break.ensures ∙ c.if-is_break.true)
