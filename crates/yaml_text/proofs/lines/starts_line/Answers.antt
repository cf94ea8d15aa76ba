use Rattle.std.proofs.Common.{◌≡◌, ◌⊎◌, inl, inr, get_or, ℕ, ◌-◌, sym, ◌∙◌, ap, subst, arith, true, false, nat_eq}
use Rattle.std.proofs.lemmas.Str.{IsUtf8-had, IsCharBoundary-start}
use Rattle.yaml_text.specs.Source.{text_of, place_of, IsBorder}
use Rattle.yaml_definitions.specs.grammar.Separation.{StartsLine}
use Rattle.yaml_text.specs.Lines.{line_brk}
use Rattle.yaml_text.specs.declared.chars.Chars.{Chars}
use Rattle.yaml_text.proofs.Tests.{on_false_at, on_false, on_true}
use Rattle.yaml_text.proofs.PlaceLemmas.{ascii_byte, before_ascii, place_same, place_positive, starts_at}
use Rattle.yaml_text.proofs.Breaks.{before_line, brk_same, line_zero, starts_line}
use Rattle.yaml_text.proofs.lines.starts_line.Goals as goal

before : (s : Chars) (at : ℕ) → IsBorder s at → (at ≡ 0 → ⊥) → StartsLine (text_of s) (place_of s at) → IsBorder s (at - 1) × line_brk (text_of s) (place_of s (at - 1)) (place_of s at)
before s at p n l =
    let u = IsUtf8-had s.text.now s.utf8 in
    let b = before_line (text_of s) (place_of s at) (place_positive s.text.now at u p n) l in
    let q = before_ascii s.text.now at b.0 b.1 u p b.4 b.2 b.3 in
    (q.0, subst (λ x. line_brk (text_of s) x (place_of s at)) (sym q.1) b.5)

-- a break's last byte stands before a line
break_before : (s : Chars) (at : ℕ) → IsBorder s at → (at ≡ 0 → ⊥) → StartsLine (text_of s) (place_of s at) → (get_or s.text.now (at - 1) 0 ≡ 10) ⊎ (get_or s.text.now (at - 1) 0 ≡ 13)
break_before s at p n l = pick b.1
  where
    b : IsBorder s (at - 1) × line_brk (text_of s) (place_of s (at - 1)) (place_of s at)
    b = before s at p n l

    pick : line_brk (text_of s) (place_of s (at - 1)) (place_of s at) → (get_or s.text.now (at - 1) 0 ≡ 10) ⊎ (get_or s.text.now (at - 1) 0 ≡ 13)
    pick (inl (h, e)) = inl (ascii_byte s.text.now (at - 1) 10 (IsUtf8-had s.text.now s.utf8) b.0 h (omega arith)).1
    pick (inr (inl (h, g, e))) = inr (ascii_byte s.text.now (at - 1) 13 (IsUtf8-had s.text.now s.utf8) b.0 h (omega arith)).1
    pick (inr (inr (h, g, e))) = inr (ascii_byte s.text.now (at - 1) 13 (IsUtf8-had s.text.now s.utf8) b.0 h (omega arith)).1

equal : (a b : ℕ) → nat_eq a b ≡ true → a ≡ b
equal a b t = grind (arith, t)

unequal : (a b : ℕ) → nat_eq a b ≡ false → a ≡ b → ⊥
unequal a b t e = grind (arith, t, e)

pub returns-then-at-eq0-clause-yes : goal.returns-then-at-eq0-clause-yes
returns-then-at-eq0-clause-yes c =
    line_zero (text_of c.args.source.now) _ (ap (place_of c.args.source.now) c.if-at-eq0.true ∙ starts_at c.args.source.now.text.now)

pub returns-then-not-is_border-clause-no : goal.returns-then-not-is_border-clause-no
returns-then-not-is_border-clause-no c = λ l.
    on_false_at c.is_border.result c.if-not-is_border.true c.is_border.ensures.no (before c.args.source.now c.args.at c.requires c.if-at-eq0.false l).0

pub returns-in-None-clause-no : goal.returns-in-None-clause-no
returns-in-None-clause-no c = λ l.
    c.in-None.ensures.none _ (before c.args.source.now c.args.at c.requires c.if-at-eq0.false l).1

pub returns-in-Some-clause-no : goal.returns-in-Some-clause-no
returns-in-Some-clause-no c = on_false (nat_eq c.in-Some.to c.args.at) (λ t l.
    let b = (before c.args.source.now c.args.at c.requires c.if-at-eq0.false l).1 in
    unequal c.in-Some.to c.args.at t
    (place_same c.args.source.now.text.now _ _ (IsUtf8-had c.args.source.now.text.now c.args.source.now.utf8) c.in-Some.ensures.border c.requires
    (brk_same (text_of c.args.source.now) _ _ _ c.in-Some.ensures.some b)))

pub returns-in-Some-clause-yes : goal.returns-in-Some-clause-yes
returns-in-Some-clause-yes c = on_true (nat_eq c.in-Some.to c.args.at) (λ t.
    subst (λ x. StartsLine (text_of c.args.source.now) (place_of c.args.source.now x)) (equal c.in-Some.to c.args.at t) (starts_line (text_of c.args.source.now) _ _ c.in-Some.ensures.some))

pub rest-requires : goal.rest-requires
rest-requires c = IsCharBoundary-start c.args.source.now.text.now (IsUtf8-had c.args.source.now.text.now c.args.source.now.utf8)

pub returns-then-before-ne13-clause-no : goal.returns-then-before-ne13-clause-no
returns-then-before-ne13-clause-no c = λ l.
    let same : c.as_bytes.result.now ≡ c.args.source.now.text.now = c.as_bytes.ensures.value ∙ c.rest.ensures in
    elim (break_before c.args.source.now c.args.at c.requires c.if-at-eq0.false l) [
      | inl e ↦ c.if-before-ne10.true (ap (λ z. get_or z (c.args.at - 1) 0) same ∙ e)
      | inr e ↦ c.if-before-ne13.true (ap (λ z. get_or z (c.args.at - 1) 0) same ∙ e)
    ]
