-- What is spelled of a scalar is read between double quotes, on one line.
use Rattle.std.proofs.Common.{◌≡◌, ℕ, ◌+◌, ◌/◌, ◌%◌, ◌<◌, ◌≤◌, ◌⊎◌, ◌==◌, not, ◌&&◌, nat_lt, Bool, true, false, inl, inr, Some, List, [], ◌∷◌, ◌++◌, length, slice_get, chars, refl, sym, ◌∙◌, ap, subst, arith, append_assoc, length-append}
use Rattle.std.proofs.lemmas.Bool.{cond_both, eqb-true, ltb-true}
use Rattle.std.proofs.lemmas.Bool.Decides.{nat_tests}
use Rattle.std.proofs.lemmas.Str.{scalars-chars, IsUtf8-from_is_utf8}
use Rattle.std.proofs.Math.Nat.{eq-or-lt_of_le}
use Rattle.std.specs.Prelude.{slice_range}
use Rattle.std.specs.Str.{is_utf8}
use Rattle.std.specs.Str.Parse.{digits_value}
use Rattle.std.specs.Char.{digit_value, is_ascii_hexdigit}
use lib.Utf8.{scalar, scalars}
use Rattle.yaml_definitions.specs.canonical.CharText.{is_plain, hex_digit, spell_char}
use Rattle.yaml_definitions.specs.canonical.NodeText.{quoted}
use Rattle.yaml_definitions.specs.grammar.Rules.{Rule, done, then, run, chr, any, Stands, ◌∪◌, ◌◂◌}
use Rattle.yaml_definitions.specs.grammar.Characters.{is_break, is_nb, is_ns, is_white, short_escape, numbered, c-ns-esc-char as escape}
use Rattle.yaml_definitions.specs.grammar.Separation.{Ctx}
use Rattle.yaml_definitions.specs.grammar.FlowScalars.{ns-double-char as double_char, white_text, c-double-quoted as double}
use Rattle.yaml_definitions.proofs.Members.{and_both}
use Rattle.yaml_definitions.proofs.CharLaws.{low}
use Rattle.yaml_text.proofs.PlaceLemmas.{slice_one, slice_snoc}
use Rattle.law_read_back.proofs.PlaceLemmas.{At, at_get, at_next, at_same, run_over}
use Rattle.law_read_back.proofs.LineLemmas.{Solid, join, a_nb, other_first, first_unmarked}

-- a character or an escape, or a white
abbrev piece : List ℕ → Rule (List ℕ)
piece cs = double_char cs ∪ white_text cs

-- the text and the closing quote
abbrev quoted_rest : List ℕ → Rule (List ℕ)
quoted_rest cs = any (piece cs) ◂ chr cs 34

-- ---- a character

hex_is : (d : ℕ) → d < 16 → is_ascii_hexdigit (hex_digit d) ≡ true
hex_is d h = grind (arith, nat_tests)

hex_worth : (d : ℕ) → d < 16 → digit_value (hex_digit d) ≡ d
hex_worth d h = grind (arith, nat_tests)

module _ (cs : List ℕ) where
  abbrev Piece : ℕ → ℕ → List ℕ → Type 0
  Piece c i r = (k : ℕ) × piece cs i k (c ∷ []) × At cs k r

  -- a backslash and one character
  by_short : (c b i : ℕ) (r : List ℕ) → is_nb b ≡ true → short_escape b ≡ Some c → At cs i (92 ∷ b ∷ r) → Piece c i r
  unfolding double_char escape
  by_short c b i r n s a =
      let m = at_next cs i 92 (b ∷ r) a in
      (i + 1 + 1, inl (c, inr (i + 1, (at_get cs i 92 (b ∷ r) a, refl), inl (b, (at_get cs (i + 1) b r m, n, refl), s)), refl), at_next cs (i + 1) b r m)

  -- hexadecimal digits
  grown : (i j : ℕ) (d : ℕ) → d < 16 → run cs is_ascii_hexdigit i j → slice_get cs j ≡ Some (hex_digit d) → run cs is_ascii_hexdigit i (j + 1)
  grown i j d l (o, f) e = (omega (arith, o), λ m a b. pick m a (eq-or-lt_of_le (let h : m ≤ j = omega (arith, b) in h)))
    where
      pick : (m : ℕ) → i ≤ m → (m ≡ j) ⊎ (m < j) → Stands cs is_ascii_hexdigit m
      pick m a (inl h) = (hex_digit d, subst (λ z. slice_get cs z ≡ Some (hex_digit d)) (sym h) e, hex_is d l)
      pick m a (inr h) = f m a h

  no_digits : (i : ℕ) → run cs is_ascii_hexdigit i i
  no_digits i = (omega arith, λ m a b. absurd (let x : ⊥ = omega (arith, a, b) in x))

  two : (c i : ℕ) (r : List ℕ) → scalar c ≡ true → c < 256 → At cs i (92 ∷ 120 ∷ hex_digit (c / 16) ∷ hex_digit (c % 16) ∷ r) → Piece c i r
  unfolding double_char escape numbered
  two c i r s l a =
      let x : ℕ = hex_digit (c / 16) in
      let y : ℕ = hex_digit (c % 16) in
      let n1 = at_next cs i 92 (120 ∷ x ∷ y ∷ r) a in
      let n2 = at_next cs (i + 1) 120 (x ∷ y ∷ r) n1 in
      let n3 = at_next cs (i + 1 + 1) x (y ∷ r) n2 in
      let n4 = at_next cs (i + 1 + 1 + 1) y r n3 in
      let k : ℕ = i + 1 + 1 in
      let g1 = at_get cs k x (y ∷ r) n2 in
      let g2 = at_get cs (k + 1) y r n3 in
      let r1 = grown k k (c / 16) (omega arith) (no_digits k) g1 in
      let r2 = grown k (k + 1) (c % 16) (omega arith) r1 g2 in
      let slice : slice_range cs k (k + 1 + 1) ≡ x ∷ y ∷ [] =
      slice_snoc cs k (k + 1) (k + 1 + 1) y (omega arith) g2 refl ∙ ap (λ v. v ++ y ∷ []) (slice_one cs k (k + 1) x g1 refl) in
      let worth : digits_value 16 (x ∷ y ∷ []) ≡ c = rw (hex_worth (c / 16) (omega arith), hex_worth (c % 16) (omega arith)) (omega arith) in
      let e : k + 1 + 1 ≡ k + 2 = omega arith in
      (k + 1 + 1, inl (c, inr (i + 1, (at_get cs i 92 _ a, refl), inr (inl (k, (at_get cs (i + 1) 120 _ n1, refl), (s, (x ∷ y ∷ [], ((r2, e), sym slice), sym worth))))), refl), n4)

  four : (c i : ℕ) (r : List ℕ) → scalar c ≡ true → c < 65536
      → At cs i (92 ∷ 117 ∷ hex_digit (c / 4096) ∷ hex_digit (c / 256 % 16) ∷ hex_digit (c / 16 % 16) ∷ hex_digit (c % 16) ∷ r) → Piece c i r
  unfolding double_char escape numbered
  four c i r s l a =
      let x : ℕ = hex_digit (c / 4096) in
      let y : ℕ = hex_digit (c / 256 % 16) in
      let z : ℕ = hex_digit (c / 16 % 16) in
      let w : ℕ = hex_digit (c % 16) in
      let n1 = at_next cs i 92 (117 ∷ x ∷ y ∷ z ∷ w ∷ r) a in
      let n2 = at_next cs (i + 1) 117 (x ∷ y ∷ z ∷ w ∷ r) n1 in
      let k : ℕ = i + 1 + 1 in
      let n3 = at_next cs k x (y ∷ z ∷ w ∷ r) n2 in
      let n4 = at_next cs (k + 1) y (z ∷ w ∷ r) n3 in
      let n5 = at_next cs (k + 1 + 1) z (w ∷ r) n4 in
      let n6 = at_next cs (k + 1 + 1 + 1) w r n5 in
      let g1 = at_get cs k x _ n2 in
      let g2 = at_get cs (k + 1) y _ n3 in
      let g3 = at_get cs (k + 1 + 1) z _ n4 in
      let g4 = at_get cs (k + 1 + 1 + 1) w _ n5 in
      let r1 = grown k k (c / 4096) (omega arith) (no_digits k) g1 in
      let r2 = grown k (k + 1) (c / 256 % 16) (omega arith) r1 g2 in
      let r3 = grown k (k + 1 + 1) (c / 16 % 16) (omega arith) r2 g3 in
      let r4 = grown k (k + 1 + 1 + 1) (c % 16) (omega arith) r3 g4 in
      let s1 : slice_range cs k (k + 1) ≡ x ∷ [] = slice_one cs k (k + 1) x g1 refl in
      let s2 : slice_range cs k (k + 1 + 1) ≡ x ∷ y ∷ [] = slice_snoc cs k (k + 1) (k + 1 + 1) y (omega arith) g2 refl ∙ ap (λ v. v ++ y ∷ []) s1 in
      let s3 : slice_range cs k (k + 1 + 1 + 1) ≡ x ∷ y ∷ z ∷ [] = slice_snoc cs k (k + 1 + 1) (k + 1 + 1 + 1) z (omega arith) g3 refl ∙ ap (λ v. v ++ z ∷ []) s2 in
      let s4 : slice_range cs k (k + 1 + 1 + 1 + 1) ≡ x ∷ y ∷ z ∷ w ∷ [] = slice_snoc cs k (k + 1 + 1 + 1) (k + 1 + 1 + 1 + 1) w (omega arith) g4 refl ∙ ap (λ v. v ++ w ∷ []) s3 in
      let worth : digits_value 16 (x ∷ y ∷ z ∷ w ∷ []) ≡ c =
      rw (hex_worth (c / 4096) (omega arith), hex_worth (c / 256 % 16) (omega arith), hex_worth (c / 16 % 16) (omega arith), hex_worth (c % 16) (omega arith)) (omega arith) in
      let e : k + 1 + 1 + 1 + 1 ≡ k + 4 = omega arith in
      (k + 1 + 1 + 1 + 1, inl (c, inr (i + 1, (at_get cs i 92 _ a, refl), inr (inr (inl (k, (at_get cs (i + 1) 117 _ n1, refl), (s, (x ∷ y ∷ z ∷ w ∷ [], ((r4, e), sym s4), sym worth)))))), refl), n6)

  solid : (c : ℕ) → is_plain c ≡ true → (c == 34) ≡ false → (c == 92) ≡ false → (c == 10) ≡ false → (c == 32) ≡ false → (is_ns c && not (c == 34) && not (c == 92)) ≡ true
  unfolding is_ns is_nb is_break is_white
  solid c p a b d e = grind (arith, nat_tests)

  itself : (c i : ℕ) (r : List ℕ) → is_plain c ≡ true → (c == 34) ≡ false → (c == 92) ≡ false → (c == 10) ≡ false → At cs i (c ∷ r) → Piece c i r
  unfolding double_char is_white
  itself c i r p n1 n2 n3 a = by (c == 32) refl
    where
      by : (t : Bool) → (c == 32) ≡ t → Piece c i r
      by true e = (i + 1, inr (c, (at_get cs i c r a, subst (λ z. is_white z ≡ true) (sym (eqb-true c 32 e)) refl, refl), refl), at_next cs i c r a)
      by false e = (i + 1, inl (c, inl (at_get cs i c r a, solid c p n1 n2 n3 e, refl), refl), at_next cs i c r a)

  abbrev Reads : ℕ → ℕ → List ℕ → List ℕ → Type 0
  Reads c i r z = At cs i (z ++ r) → Piece c i r

  one_piece : (c i : ℕ) (r : List ℕ) → scalar c ≡ true → At cs i (spell_char c ++ r) → Piece c i r
  unfolding spell_char short_escape is_nb is_break
  one_piece c i r s =
      cond_both (c == 34) _ _ (Reads c i r) (λ e. by_short c 34 i r refl (ap Some (sym (eqb-true c 34 e)))) (λ n1.
      cond_both (c == 92) _ _ (Reads c i r) (λ e. by_short c 92 i r refl (ap Some (sym (eqb-true c 92 e)))) (λ n2.
      cond_both (c == 10) _ _ (Reads c i r) (λ e. by_short c 110 i r refl (ap Some (sym (eqb-true c 10 e)))) (λ n3.
      cond_both (c == 9) _ _ (Reads c i r) (λ e. by_short c 116 i r refl (ap Some (sym (eqb-true c 9 e)))) (λ n4.
      cond_both (is_plain c) _ _ (Reads c i r) (λ e. itself c i r e n1 n2 n3) (λ n5.
      cond_both (nat_lt c 256) _ _ (Reads c i r) (λ e. two c i r s (ltb-true c 256 e)) (λ n6. four c i r s (low c s n5)))))))

  -- the characters, the quote and what follows
  pub pieces : (xs : List ℕ) (i : ℕ) (r : List ℕ) → scalars xs ≡ true → At cs i (quoted xs r) → (k : ℕ) × quoted_rest cs i k xs × At cs k r
  pieces [] i r s a = (i + 1, (i, done refl refl, (at_get cs i 34 r a, refl)), at_next cs i 34 r a)
  pieces (c ∷ xs) i r s a =
      let h = and_both (scalar c) (scalars xs) s in
      let p = one_piece c i (quoted xs r) h.0 a in
      let q = pieces xs p.0 r h.1 p.2 in
      (q.0, (q.1.0, then p.0 (c ∷ []) xs p.1 q.1.1 refl, q.1.2), q.2)

-- ---- no break stands inside

plain_nb : (c : ℕ) → is_plain c ≡ true → is_nb c ≡ true
unfolding is_nb is_break
plain_nb c h = grind (arith, nat_tests)

pub hex_nb : (d : ℕ) → is_nb (hex_digit d) ≡ true
unfolding is_nb is_break
hex_nb d = grind (arith, nat_tests)

char_nb : (c : ℕ) → Solid (spell_char c)
unfolding spell_char
char_nb c =
    let b : is_nb 92 ≡ true = a_nb 92 (omega arith) in
    cond_both (c == 34) _ _ Solid (λ e. (b, (a_nb 34 (omega arith), tt))) (λ n1.
    cond_both (c == 92) _ _ Solid (λ e. (b, (b, tt))) (λ n2.
    cond_both (c == 10) _ _ Solid (λ e. (b, (a_nb 110 (omega arith), tt))) (λ n3.
    cond_both (c == 9) _ _ Solid (λ e. (b, (a_nb 116 (omega arith), tt))) (λ n4.
    cond_both (is_plain c) _ _ Solid (λ e. (plain_nb c e, tt)) (λ n5.
    cond_both (nat_lt c 256) _ _ Solid (λ e. (b, (a_nb 120 (omega arith), (hex_nb (c / 16), (hex_nb (c % 16), tt)))))
    (λ n6. (b, (a_nb 117 (omega arith), (hex_nb (c / 4096), (hex_nb (c / 256 % 16), (hex_nb (c / 16 % 16), (hex_nb (c % 16), tt))))))))))))

pub quoted_nb : (xs r : List ℕ) → Solid r → Solid (quoted xs r)
quoted_nb [] r g = (a_nb 34 (omega arith), g)
quoted_nb (c ∷ xs) r g = join (spell_char c) (quoted xs r) (char_nb c) (quoted_nb xs r g)

-- what follows stays
pub quoted_more : (xs r s : List ℕ) → quoted xs (r ++ s) ≡ quoted xs r ++ s
quoted_more [] r s = refl
quoted_more (c ∷ xs) r s = ap (λ z. spell_char c ++ z) (quoted_more xs r s) ∙ sym (append_assoc (spell_char c) (quoted xs r) s)

module _ (cs : List ℕ) where
  pub double_read : (x : List ℕ) (n : ℕ) (c : Ctx) (i : ℕ) (r : List ℕ) → is_utf8 x ≡ true → At cs i (34 ∷ quoted (chars x) r) → (j : ℕ) × double cs n c i j (chars x) × At cs j r
  unfolding double
  double_read x n c i r u a =
      let xs : List ℕ = chars x in
      let g = at_get cs i 34 (quoted xs r) a in
      let p = pieces cs xs (i + 1) r (scalars-chars x (IsUtf8-from_is_utf8 x u)) (at_next cs i 34 (quoted xs r) a) in
      let e : quoted xs r ≡ quoted xs [] ++ r = quoted_more xs [] r in
      let f : length (quoted xs r) ≡ length (quoted xs []) + length r = ap length e ∙ length-append (quoted xs []) r in
      let ys : List ℕ = 34 ∷ quoted xs [] in
      let n1 : p.0 ≡ i + length ys = omega (arith, f, a.1, p.2.1) in
      let w = run_over cs is_nb ys i p.0 r (a_nb 34 (omega arith), quoted_nb xs [] tt) (at_same cs i (34 ∷ quoted xs r) (ys ++ r) (ap (λ z. 34 ∷ z) e) a) n1 in
      (p.0, (first_unmarked cs i p.0 (other_first cs i 34 g (λ q. omega (arith, q)) (λ q. omega (arith, q))) w.0, (i + 1, (g, refl), (p.1.0, inl p.1.1, p.1.2))), p.2)
