-- Texts of ASCII characters alone: their bytes are their characters.
use Rattle.std.proofs.Common.{◌≡◌, ℕ, zero, suc, ◌+◌, ◌-◌, ◌<◌, ◌≤◌, inl, inr, List, [], ◌∷◌, ◌++◌, Bool, true, false, Some, refl, sym, ◌∙◌, ap, subst, arith}
use Rattle.std.specs.Prelude.{slice_get, slice_range, codes, nat_lt, ◌==◌, ◌||◌}
use Rattle.std.specs.List.{list_any}
use Rattle.std.specs.Char.{is_ascii_hexdigit}
use Rattle.std.specs.Str.{chars, IsUtf8, IsAscii}
use Rattle.std.proofs.lemmas.Bool.Decides.{nat_tests}
use Rattle.std.proofs.lemmas.Str.{encodes-chars, encodes-IsAscii, IsAscii-append}
use Rattle.std.proofs.lemmas.Str.Ascii.{IsAscii-nil}
use lib.Utf8.{encodes}
use Rattle.yaml_definitions.specs.grammar.Rules.{Spans, run, Stands}
use Rattle.yaml_definitions.specs.grammar.Characters.{is_word, is_uri, is_tag}
use Rattle.yaml_text.proofs.PlaceLemmas.{slice_none, slice_one, slice_join, slice_snoc}
use Rattle.yaml_text.proofs.Runs.{run_none, run_more}
use Rattle.yaml_text.proofs.Breaks.{run_join}
use Rattle.yaml_mark.specs.DirectiveParts.{prefix_start, prefix_run}
use Rattle.yaml_mark.proofs.TagLemmas.{spans_map, is_uri_char, is_tag_char}
use Rattle.yaml_mark.specs.Parts.{percent_escape, char_or_escape, handle_rest}

abbrev pub is_low : ℕ → Bool
is_low c = nat_lt c 128

low_less : (c : ℕ) → is_low c ≡ true → c < 128
low_less c h = grind (arith, nat_tests, h)

hex_low : (c : ℕ) → is_ascii_hexdigit c ≡ true → is_low c ≡ true
hex_low c h = grind (arith, nat_tests, h)

pub word_low : (c : ℕ) → is_word c ≡ true → is_low c ≡ true
unfolding is_word
word_low c h = grind (arith, nat_tests, h)

unfoldable pub AllLow : List ℕ → Type 0
AllLow [] = Unit {0}
AllLow (d ∷ ds) = (is_low d ≡ true) × AllLow ds

equal_low : (c d : ℕ) → (d == c) ≡ true → is_low d ≡ true → is_low c ≡ true
equal_low c d e h = grind (arith, nat_tests, e, h)

among_low : (c : ℕ) (ds : List ℕ) → AllLow ds → list_any (λ d. d == c) ds ≡ true → is_low c ≡ true
unfolding AllLow
among_low c [] l h = let z : false ≡ true = h in cc
among_low c (d ∷ ds) l h = pick (d == c) refl h (among_low c ds l.1)
  where
    pick : (t : Bool) → (d == c) ≡ t → (t || list_any (λ d. d == c) ds) ≡ true → (list_any (λ d. d == c) ds ≡ true → is_low c ≡ true) → is_low c ≡ true
    pick true e k rec = equal_low c d e l.0
    pick false e k rec = rec k

or_low : (a b : Bool) (c : ℕ) → (a ≡ true → is_low c ≡ true) → (b ≡ true → is_low c ≡ true) → (a || b) ≡ true → is_low c ≡ true
or_low true b c f g h = f refl
or_low false b c f g h = g h

signs_low : AllLow (codes "#;/?:@&=+$,_.!~*'()[]")
unfolding AllLow
signs_low = (refl, (refl, (refl, (refl, (refl, (refl, (refl, (refl, (refl, (refl, (refl, (refl, (refl, (refl, (refl, (refl, (refl, (refl, (refl, (refl, (refl, tt)))))))))))))))))))))

pub uri_low : (c : ℕ) → is_uri c ≡ true → is_low c ≡ true
unfolding is_uri
uri_low c h = or_low (is_word c) _ c (word_low c) (among_low c (codes "#;/?:@&=+$,_.!~*'()[]") signs_low) h

pub tag_low : (c : ℕ) → is_tag c ≡ true → is_low c ≡ true
unfolding is_tag
tag_low c h = uri_low c (grind (arith, h))

ascii_one : (c : ℕ) → is_low c ≡ true → IsAscii (c ∷ [])
ascii_one c h = λ k. let l = low_less c h in grind (arith, l)

pub all_ascii : (xs : List ℕ) → AllLow xs → IsAscii xs
unfolding AllLow
all_ascii [] l = IsAscii-nil
all_ascii (c ∷ xs) l = IsAscii-append (c ∷ []) xs (ascii_one c l.0) (all_ascii xs l.1)

module _ (cs : List ℕ) where
  low_one : (i j c : ℕ) → slice_get cs i ≡ Some c → is_low c ≡ true → j ≡ i + 1 → run cs is_low i j
  low_one i j c h t e = run_more cs is_low i i j c (run_none cs is_low i) h t e

  low_run : (p : ℕ → Bool) → ((c : ℕ) → p c ≡ true → is_low c ≡ true) → (i j : ℕ) → run cs p i j → run cs is_low i j
  low_run p f i j (a, r) = (a, λ k u v. let (c, h, t) = r k u v in (c, h, f c t))

  low_escaped : (p : ℕ → Bool) → ((c : ℕ) → p c ≡ true → is_low c ≡ true) → (i j : ℕ) → char_or_escape cs p i j → run cs is_low i j
  unfolding char_or_escape percent_escape
  low_escaped p f i j (inl ((c, h, t), e)) = low_one i j c h (f c t) e
  low_escaped p f i j (inr (a, (h, e), (b, ((c, g, t), k), ((d, l, u), m)))) =
      run_join cs is_low i a j (low_one i a 37 h refl e) (run_join cs is_low a b j (low_one a b c g (hex_low c t) k) (low_one b j d l (hex_low d u) m))

  pub low_spans : (p : ℕ → Bool) → ((c : ℕ) → p c ≡ true → is_low c ≡ true) → {j i : ℕ} → Spans (char_or_escape cs p) j i → run cs is_low i j
  low_spans p f {j} {i} (Spans.done e) = subst (run cs is_low i) (sym e) (run_none cs is_low i)
  low_spans p f {j} {i} (Spans.then k r more) = run_join cs is_low i k j (low_escaped p f i k r) (low_spans p f more)

  pub low_handle : (i f a : ℕ) → slice_get cs i ≡ Some 33 → f ≡ i + 1 → handle_rest cs f a → run cs is_low i a
  unfolding handle_rest
  low_handle i f a h e (inr (g, none)) = low_one i a 33 h refl (g ∙ e)
  low_handle i f a h e (inl (x, r, (k, g))) = run_join cs is_low i f a (low_one i f 33 h refl e) (run_join cs is_low f x a (low_run is_word word_low f x r) (low_one x a 33 k refl g))

  pub low_prefix : (i j : ℕ) → prefix_run cs i j → run cs is_low i j
  unfolding prefix_run prefix_start
  low_prefix i j (k, inl (h, e), s) = run_join cs is_low i k j (low_one i k 33 h refl e) (low_spans is_uri uri_low (spans_map (is_uri_char cs) s))
  low_prefix i j (k, inr r, s) = run_join cs is_low i k j (low_escaped is_tag tag_low i k (is_tag_char cs i k r)) (low_spans is_uri uri_low (spans_map (is_uri_char cs) s))

  ascii_slice : (i n : ℕ) → ((k : ℕ) → i ≤ k → k < i + n → Stands cs is_low k) → IsAscii (slice_range cs i (i + n))
  ascii_slice i zero r = subst IsAscii (sym (ap (slice_range cs i) (let e : i + 0 ≡ i = omega arith in e) ∙ slice_none cs i)) IsAscii-nil
  ascii_slice i (suc n) r =
      let (c, h, t) = r (i + n) (omega arith) (omega arith) in
      subst IsAscii (sym (slice_snoc cs i (i + n) (i + suc n) c (omega arith) h (omega arith)))
      (IsAscii-append (slice_range cs i (i + n)) (c ∷ []) (ascii_slice i n (λ k a b. r k a (omega (arith, b)))) (ascii_one c t))

  -- what stands in the text between two places
  pub ascii_text : (s : List ℕ) (i j : ℕ) → IsUtf8 s → chars s ≡ slice_range cs i j → run cs is_low i j → s ≡ slice_range cs i j
  ascii_text s i j u e (l, r) =
      let at : i + (j - i) ≡ j = omega (arith, l) in
      let a = subst (λ z. IsAscii (slice_range cs i z)) at (ascii_slice i (j - i) (λ k x y. r k x (omega (arith, y, l)))) in
      sym (encodes-chars s u) ∙ ap encodes e ∙ encodes-IsAscii (slice_range cs i j) a

  rest_onward : (f a : ℕ) → handle_rest cs f a → f ≤ a
  unfolding handle_rest
  rest_onward f a (inr (g, none)) = omega (arith, g)
  rest_onward f a (inl (x, r, (k, g))) = omega (arith, r.0, g)

  -- a shorthand's bytes: its first character, what is left of its handle, and its suffix
  pub shorthand_is : (all suffix : List ℕ) (i f a e : ℕ) → IsUtf8 all → chars all ≡ slice_range cs i e → slice_get cs i ≡ Some 33 → f ≡ i + 1 → handle_rest cs f a → run cs is_low a e → suffix ≡ slice_range cs a e → (handle : List ℕ) × (all ≡ 33 ∷ (handle ++ suffix))
  shorthand_is all suffix i f a e u t h n r s v =
      let o = rest_onward f a r in
      let is = ascii_text all i e u t (run_join cs is_low i a e (low_handle i f a h n r) s) in
      (slice_range cs f a, is ∙ slice_join cs i f e (omega (arith, n)) (omega (arith, o, s.0)) ∙ ap (λ z. z ++ slice_range cs f e) (slice_one cs i f 33 h n) ∙ ap (λ z. 33 ∷ z) (slice_join cs f a e o s.0 ∙ ap (λ z. slice_range cs f a ++ z) (sym v)))
