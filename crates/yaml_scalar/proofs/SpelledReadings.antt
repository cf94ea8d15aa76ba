-- What is spelled is read back as the same text.
use Rattle.std.proofs.Common.{◌≡◌, ◌≢◌, ◌==◌, ℕ, zero, suc, ◌+◌, ◌-◌, ◌*◌, ◌/◌, ◌%◌, ◌<◌, ◌≤◌, nat_lt, inl, inr, List, [], ◌∷◌, ◌++◌, drop, Some, true, refl, sym, ◌∙◌, ap, subst, arith}
use Rattle.std.specs.Prelude.{slice_get, slice_range, not, ◌&&◌}
use Rattle.std.proofs.lemmas.Bool.{cond_both, eqb-true, eqb-false, ltb-true, cases_eq, cases_lt}
use Rattle.std.proofs.lemmas.Bool.Decides.{nat_tests}
use Rattle.std.specs.Char.{digit_value, is_ascii_hexdigit}
use Rattle.std.specs.Str.{all_scalars}
use Rattle.std.specs.Str.Parse.{digits_value}
use lib.Utf8.{scalar}
use Rattle.yaml_text.specs.LeafAnswer.{Only}
use Rattle.yaml_definitions.specs.canonical.CharText.{is_plain, hex_digit, spell_char}
use Rattle.yaml_definitions.specs.canonical.NodeText.{quoted}
use Rattle.yaml_definitions.specs.grammar.Rules.{◌∪◌, done, then, any, exactly}
use Rattle.yaml_definitions.specs.grammar.Characters.{is_ns, is_nb, is_break, is_white, short_escape, c-ns-esc-char as escape}
use Rattle.yaml_definitions.specs.grammar.Separation.{Ctx, Unmarked}
use Rattle.yaml_definitions.specs.grammar.FlowScalars.{ns-double-char as double_char, white_text, c-double-quoted as double}
use Rattle.yaml_definitions.proofs.CharLaws.{heads, tails, low}
use Rattle.yaml_scalar.specs.Spelling.{ReadsBack}
use Rattle.yaml_scalar.specs.Chains.{digit_count}
use Rattle.yaml_scalar.proofs.EscapeLemmas.{digits_none, digits_more, numbered_is, escape_short, escape_long, escape_characters}
use Rattle.yaml_text.proofs.Breaks.{ns_no_return, white_no_return}
use Rattle.yaml_scalar.proofs.DoubleLemmas.{letter_ns, no_dashes, no_mark_after}
use Rattle.yaml_scalar.proofs.DoubleReadings.{double_same}

digit_back : (d : ℕ) → d < 16 → digit_value (hex_digit d) ≡ d
digit_back d h = grind (arith, nat_tests)

shorts : (short_escape 34 ≡ Some 34) × (short_escape 92 ≡ Some 92) × (short_escape 110 ≡ Some 10) × (short_escape 116 ≡ Some 9)
unfolding short_escape
shorts = (refl, refl, refl, refl)

counts : (digit_count 120 ≡ Some 2) × (digit_count 117 ≡ Some 4)
unfolding digit_count
counts = (refl, refl)

space_white : is_white 32 ≡ true
unfolding is_white
space_white = refl

plain_letter : (c : ℕ) → is_plain c ≡ true → c ≢ 34 → c ≢ 92 → c ≢ 32 → (is_ns c && not (c == 34) && not (c == 92)) ≡ true
unfolding is_ns is_nb is_break is_white
plain_letter c p a b d = grind (arith, nat_tests)

first_scalar : (x : ℕ) (xs : List ℕ) → all_scalars (x ∷ xs) ≡ true → (scalar x ≡ true) × (all_scalars xs ≡ true)
first_scalar x xs p = (grind (arith, p), grind (arith, p))

ns_no_feed : (c : ℕ) → is_ns c ≡ true → c ≢ 10
unfolding is_ns is_nb is_break
ns_no_feed c p e = grind (arith, p, e)

white_no_feed : (c : ℕ) → is_white c ≡ true → c ≢ 10
unfolding is_white
white_no_feed c p e = grind (arith, p, e)

module _ (cs : List ℕ) where
  -- the first of what is left of a text
  first_left : (i y : ℕ) (ys : List ℕ) → drop i cs ≡ y ∷ ys → (slice_get cs i ≡ Some y) × (drop (i + 1) cs ≡ ys)
  first_left i y ys e = go cs i e
    where
      go : (cs : List ℕ) (i : ℕ) → drop i cs ≡ y ∷ ys → (slice_get cs i ≡ Some y) × (drop (i + 1) cs ≡ ys)
      go [] zero e = absurd (let h : ◌≡◌ {A = List ℕ} [] (y ∷ ys) = e in cc)
      go [] (suc i) e = absurd (let h : ◌≡◌ {A = List ℕ} [] (y ∷ ys) = e in cc)
      go (x ∷ xs) zero e = (ap Some (heads e), tails e)
      go (x ∷ xs) (suc i) e =
          let q = go xs i e in (q.0, ap (λ k. drop k (x ∷ xs)) (let f : suc i + 1 ≡ suc (i + 1) = omega arith in f) ∙ q.1)

  -- a character is read from i on, and this is left
  record Back (i v : ℕ) (rest : List ℕ) : Type 0 where
    j : ℕ
    is : (double_char cs ∪ white_text cs) i j (v ∷ [])
    left : drop j cs ≡ rest

  back_same : (i v w : ℕ) (rest : List ℕ) → v ≡ w → Back i v rest → Back i w rest
  back_same i v w rest e b = subst (λ x. Back i x rest) e b

  back_escape : (i j v : ℕ) (rest : List ℕ) → escape cs i j v → drop j cs ≡ rest → Back i v rest
  unfolding double_char
  back_escape i j v rest p e = record { j = j; is = inl (v, inr p, refl); left = e }

  back_short : (i d v : ℕ) (rest : List ℕ) → short_escape d ≡ Some v → drop i cs ≡ 92 ∷ d ∷ rest → Back i v rest
  back_short i d v rest s e =
      let a = first_left i 92 (d ∷ rest) e in
      let b = first_left (i + 1) d rest a.1 in
      back_escape i (i + 1 + 1) v rest (escape_short cs i (i + 1) (i + 1 + 1) d v a.0 refl b.0 s refl) b.1

  back_plain : (i v : ℕ) (rest : List ℕ) → is_plain v ≡ true → v ≢ 34 → v ≢ 92 → drop i cs ≡ v ∷ rest → Back i v rest
  unfolding double_char
  back_plain i v rest p n m e =
      let a = first_left i v rest e in
      elim (cases_eq v 32) [
        | inl f ↦ record { j = i + 1; is = inr (v, (a.0, ap is_white f ∙ space_white, refl), refl); left = a.1 }
        | inr f ↦ record { j = i + 1; is = inl (v, inl (a.0, plain_letter v p n m f, refl), refl); left = a.1 }
      ]

  -- so many digits, with the number that they write
  record Digits (n i j m : ℕ) : Type 0 where
    digits : exactly cs n is_ascii_hexdigit i j
    value : m ≡ digits_value 16 (slice_range cs i j)

  digits_start : (i : ℕ) → Digits 0 i i 0
  digits_start i = let d = digits_none cs i in record { digits = d.0; value = d.1 }

  digits_next : (n i j m d : ℕ) → Digits n i j m → d < 16 → slice_get cs j ≡ Some (hex_digit d) → Digits (n + 1) i (j + 1) (m * 16 + d)
  digits_next n i j m d p h e =
      let same : digit_value (hex_digit d) ≡ d = digit_back d h in
      let q = digits_more cs n i j (j + 1) (hex_digit d) m p.digits p.value e (omega (arith, same, h)) refl in
      record { digits = q.0; value = ap (λ x. m * 16 + x) (sym same) ∙ q.1 }

  back_byte : (i v : ℕ) (rest : List ℕ) → scalar v ≡ true → v < 256 → drop i cs ≡ 92 ∷ 120 ∷ hex_digit (v / 16) ∷ hex_digit (v % 16) ∷ rest → Back i v rest
  back_byte i v rest s h e =
      let a = first_left i 92 _ e in
      let b = first_left (i + 1) 120 _ a.1 in
      let d = first_left (i + 1 + 1) (hex_digit (v / 16)) _ b.1 in
      let f = first_left (i + 1 + 1 + 1) (hex_digit (v % 16)) rest d.1 in
      let k = i + 1 + 1 in
      let one = digits_next 0 k k 0 (v / 16) (digits_start k) (omega arith) d.0 in
      let two = digits_next (0 + 1) k (k + 1) (0 * 16 + v / 16) (v % 16) one (omega arith) f.0 in
      let all : v ≡ (0 * 16 + v / 16) * 16 + v % 16 = omega arith in
      back_escape i (k + 1 + 1) v rest
      (escape_long cs i (i + 1) k (k + 1 + 1) 120 2 v a.0 refl b.0 counts.0 refl (numbered_is cs 2 (0 + 1 + 1) k (k + 1 + 1) v (omega arith) two.digits (all ∙ two.value) s)) f.1

  back_four : (i v : ℕ) (rest : List ℕ) → scalar v ≡ true → v < 65536 → drop i cs ≡ 92 ∷ 117 ∷ hex_digit (v / 4096) ∷ hex_digit (v / 256 % 16) ∷ hex_digit (v / 16 % 16) ∷ hex_digit (v % 16) ∷ rest → Back i v rest
  back_four i v rest s h e =
      let a = first_left i 92 _ e in
      let b = first_left (i + 1) 117 _ a.1 in
      let k = i + 1 + 1 in
      let d = first_left k (hex_digit (v / 4096)) _ b.1 in
      let f = first_left (k + 1) (hex_digit (v / 256 % 16)) _ d.1 in
      let g = first_left (k + 1 + 1) (hex_digit (v / 16 % 16)) _ f.1 in
      let l = first_left (k + 1 + 1 + 1) (hex_digit (v % 16)) rest g.1 in
      let one = digits_next 0 k k 0 (v / 4096) (digits_start k) (omega arith) d.0 in
      let two = digits_next (0 + 1) k (k + 1) _ (v / 256 % 16) one (omega arith) f.0 in
      let three = digits_next (0 + 1 + 1) k (k + 1 + 1) _ (v / 16 % 16) two (omega arith) g.0 in
      let four = digits_next (0 + 1 + 1 + 1) k (k + 1 + 1 + 1) _ (v % 16) three (omega arith) l.0 in
      let all : v ≡ (((0 * 16 + v / 4096) * 16 + v / 256 % 16) * 16 + v / 16 % 16) * 16 + v % 16 = omega arith in
      back_escape i (k + 1 + 1 + 1 + 1) v rest
      (escape_long cs i (i + 1) k (k + 1 + 1 + 1 + 1) 117 4 v a.0 refl b.0 counts.1 refl
      (numbered_is cs 4 (0 + 1 + 1 + 1 + 1) k (k + 1 + 1 + 1 + 1) v (omega arith) four.digits (all ∙ four.value) s)) l.1

  -- a character is read back from its spelling
  char_back : (i c : ℕ) (rest : List ℕ) → scalar c ≡ true → drop i cs ≡ spell_char c ++ rest → Back i c rest
  unfolding spell_char
  char_back i c rest h =
      cond_both (c == 34) _ _ To (λ e q. back_same i 34 c rest (sym (eqb-true c 34 e)) (back_short i 34 34 rest shorts.0 q)) (λ n1.
      cond_both (c == 92) _ _ To (λ e q. back_same i 92 c rest (sym (eqb-true c 92 e)) (back_short i 92 92 rest shorts.1 q)) (λ n2.
      cond_both (c == 10) _ _ To (λ e q. back_same i 10 c rest (sym (eqb-true c 10 e)) (back_short i 110 10 rest shorts.2 q)) (λ n3.
      cond_both (c == 9) _ _ To (λ e q. back_same i 9 c rest (sym (eqb-true c 9 e)) (back_short i 116 9 rest shorts.3 q)) (λ n4.
      cond_both (is_plain c) _ _ To (λ e q. back_plain i c rest e (eqb-false c 34 n1) (eqb-false c 92 n2) q) (λ n5.
      cond_both (nat_lt c 256) _ _ To (λ e q. back_byte i c rest h (ltb-true c 256 e) q) (λ n6 q. back_four i c rest h (low c h n5) q))))))
    where
      To : List ℕ → Type 0
      To z = drop i cs ≡ z ++ rest → Back i c rest

  -- ---- a whole spelling

  abbrev NoBreak : ℕ → Type 0
  NoBreak k = (c : ℕ) × (slice_get cs k ≡ Some c) × (c ≢ 10) × (c ≢ 13)

  here : (i k c : ℕ) → i ≤ k → k < i + 1 → slice_get cs i ≡ Some c → c ≢ 10 → c ≢ 13 → NoBreak k
  here i k c a b h m n = (c, subst (λ x. slice_get cs x ≡ Some c) (let e : i ≡ k = omega (arith, a, b) in e) h, m, n)

  piece_characters : (i j : ℕ) (xs : List ℕ) → (double_char cs ∪ white_text cs) i j xs → (i < j) × ((k : ℕ) → i ≤ k → k < j → NoBreak k)
  unfolding double_char
  piece_characters i j xs (inl (x, inl (h, v, e), f)) =
      let n = letter_ns x v in (omega (arith, e), λ k a b. here i k x a (omega (arith, b, e)) h (ns_no_feed x n) (ns_no_return x n))
  piece_characters i j xs (inl (x, inr p, f)) = let q = escape_characters cs i j x p in (let l : i + 2 ≤ j = q.0 in omega (arith, l), q.1)
  piece_characters i j xs (inr (x, (h, w, e), f)) = (omega (arith, e), λ k a b. here i k x a (omega (arith, b, e)) h (white_no_feed x w) (white_no_return x w))

  -- the characters of a content, and the closing quote
  quoted_back : (xs more : List ℕ) (i : ℕ) → all_scalars xs ≡ true → drop i cs ≡ quoted xs more →
      (j : ℕ) × any (double_char cs ∪ white_text cs) i j xs × (slice_get cs j ≡ Some 34) × (drop (j + 1) cs ≡ more) × (i ≤ j) × ((k : ℕ) → i ≤ k → k < j → NoBreak k)
  quoted_back [] more i s e =
      let q = first_left i 34 more e in (i, done refl refl, q.0, q.1, omega arith, λ k a b. absurd (omega (arith, a, b)))
  quoted_back (x ∷ xs) more i s e =
      let t = first_scalar x xs s in
      let b = char_back i x (quoted xs more) t.0 e in
      let (j, chain, h, left, le, fine) = quoted_back xs more b.j t.1 b.left in
      let q = piece_characters i b.j (x ∷ []) b.is in
      (j, then b.j (x ∷ []) xs b.is chain refl, h, left, (let l : i < b.j = q.0 in omega (arith, l, le)), λ k m n. elim (cases_lt k b.j) [ inl l ↦ q.1 k m l | inr l ↦ fine k l n ])

  pub spelled_back : (n : ℕ) (c : Ctx) (xs more : List ℕ) (i : ℕ) → all_scalars xs ≡ true → drop i cs ≡ 34 ∷ quoted xs more → (j : ℕ) × Only (double cs n c) i j xs × (drop j cs ≡ more)
  unfolding double
  spelled_back n c xs more i s e =
      let a = first_left i 34 (quoted xs more) e in
      let (j, chain, h, left, le, fine) = quoted_back xs more (i + 1) s a.1 in
      let unmarked : Unmarked cs i (j + 1) = λ k m l. elim (cases_eq k i) [
        | inl f ↦ no_dashes cs 34 k (subst (λ x. slice_get cs x ≡ Some 34) (sym f) a.0) (omega arith) (omega arith)
        | inr f ↦ elim (cases_eq k (i + 1)) [
          | inl g ↦ no_mark_after cs i k g (34, a.0, omega arith, omega arith)
          | inr g ↦ no_mark_after cs (k - 1) k (omega (arith, m, f)) (fine (k - 1) (omega (arith, m, f, g)) (omega (arith, l, m, f, g)))
        ]
      ] in
      let reading : double cs n c i (j + 1) xs = (unmarked, (i + 1, (a.0, refl), (j, inl chain, (h, refl)))) in
      (j + 1, record { is = reading; only = λ k ys r. double_same cs n c i k (j + 1) ys xs r reading }, left)

pub reads_back : ReadsBack
reads_back n c cs xs more i s e = spelled_back cs n c xs more i s e
