-- The characters of tags, and escapes: from a place one at most.
use Rattle.std.proofs.Common.{◌≡◌, ◌≢◌, ℕ, ◌+◌, inl, inr, List, Bool, true, false, Some, None, sym, ◌∙◌, ap, subst}
use Rattle.std.specs.Prelude.{slice_get, IfSome, Option}
use Rattle.std.specs.Char.{is_ascii_hexdigit}
use Rattle.yaml_definitions.specs.grammar.Rules.{Stands, one}
use Rattle.yaml_mark.specs.Parts.{percent_escape, char_or_escape}
use Rattle.yaml_text.proofs.Runs.{no_stand, no_stand_end, nothing_there}

module _ (cs : List ℕ) where
  one_end : (p : ℕ → Bool) (i j : ℕ) → one cs p i j → j ≡ i + 1
  one_end p i j (s, e) = e

  pub escape_is : (i j k m : ℕ) → slice_get cs i ≡ Some 37 → j ≡ i + 1 → one cs is_ascii_hexdigit j k → one cs is_ascii_hexdigit k m → percent_escape cs i m
  unfolding percent_escape
  escape_is i j k m h e r s = (j, (h, e), (k, r, s))

  pub no_percent : (i : ℕ) → slice_get cs i ≢ Some 37 → (j : ℕ) → percent_escape cs i j → ⊥
  unfolding percent_escape
  no_percent i n j (k, (h, e), r) = n h

  pub no_high : (i k : ℕ) → k ≡ i + 1 → (Stands cs is_ascii_hexdigit k → ⊥) → (j : ℕ) → percent_escape cs i j → ⊥
  unfolding percent_escape
  no_high i k e n j (a, (h, f), (b, (s, g), r)) = n (subst (Stands cs is_ascii_hexdigit) (f ∙ sym e) s)

  pub no_low : (i k m : ℕ) → k ≡ i + 1 → one cs is_ascii_hexdigit k m → (Stands cs is_ascii_hexdigit m → ⊥) → (j : ℕ) → percent_escape cs i j → ⊥
  unfolding percent_escape
  no_low i k m e (t, u) n j (a, (h, f), (b, (s, g), (r, o))) = n (subst (Stands cs is_ascii_hexdigit) (g ∙ ap (λ z. z + 1) (f ∙ sym e) ∙ sym u) r)

  pub letter_is : (p : ℕ → Bool) (i j c : ℕ) → slice_get cs i ≡ Some c → p c ≡ true → j ≡ i + 1 → char_or_escape cs p i j
  unfolding char_or_escape
  letter_is p i j c h t e = inl ((c, h, t), e)

  pub escaped_is : (p : ℕ → Bool) (i j : ℕ) → percent_escape cs i j → char_or_escape cs p i j
  unfolding char_or_escape
  escaped_is p i j r = inr r

  pub nothing_escaped : (p : ℕ → Bool) (i : ℕ) → slice_get cs i ≡ None → (j : ℕ) → char_or_escape cs p i j → ⊥
  unfolding char_or_escape percent_escape
  nothing_escaped p i n j (inl (s, e)) = no_stand_end cs p i n s
  nothing_escaped p i n j (inr (k, (h, e), r)) = nothing_there cs i 37 n h

  pub no_escaped : (p : ℕ → Bool) (i c : ℕ) → slice_get cs i ≡ Some c → p c ≡ false → ((j : ℕ) → percent_escape cs i j → ⊥) → (j : ℕ) → char_or_escape cs p i j → ⊥
  unfolding char_or_escape
  no_escaped p i c h f n j (inl (s, e)) = no_stand cs p i c h f s
  no_escaped p i c h f n j (inr r) = n j r

  -- where another character than `%` stands that is none of the class, no character of it and no escape does
  pub none_behind : (p : ℕ → Bool) (i c : ℕ) {o : Option ℕ} → o ≡ Some c → IfSome o (λ b. slice_get cs i ≡ Some b) → IfSome o (λ b. p b ≡ false) → c ≢ 37 → (j : ℕ) → char_or_escape cs p i j → ⊥
  none_behind p i c {o} e h f n =
      let is : slice_get cs i ≡ Some c = subst (λ z. IfSome z (λ b. slice_get cs i ≡ Some b)) e h in
      no_escaped p i c is (subst (λ z. IfSome z (λ b. p b ≡ false)) e f) (no_percent i (λ g. n (let k = sym is ∙ g in cc)))
