-- A text with its escapes, by runs of characters that are written as they are.
use Rattle.std.proofs.Common.{◌≡◌, ◌+◌, ◌-◌, ◌<◌, ◌%◌, ◌/◌, ℕ, true, false, cond, List, [], ◌∷◌, ◌++◌, length, take, drop, refl, sym, ◌∙◌, ap, subst, arith}
use Rattle.std.proofs.lemmas.Bool.{cond_both}
use Rattle.std.proofs.lemmas.List.{append_assoc, append-nil, length-append}
use Rattle.std.proofs.Math.Seq.{drop-append_seam, take-append_seam}
use Rattle.std.specs.Char.{encode_utf8}
use Rattle.std.specs.Str.{encode_utf8_all, IsUtf8, IsCharBoundary, chars}
use Rattle.std.specs.Prelude.{flat_map, nat_lt, ◌==◌}
use Rattle.std.proofs.lemmas.Str.{encode_ascii, encodes-append, chars_past_char, IsUtf8-past_char, IsCharBoundary-at_seam, chars-nil}
use Rattle.yaml_definitions.specs.canonical.CharText.{hex_digit}
use Rattle.yaml_show_scalar.specs.declared.escapes.Language.{Language}
use Rattle.yaml_show_scalar.specs.declared.escapes.Language.TheVariants.{Yaml, Json}
use Rattle.yaml_show_scalar.specs.Escapes.{is_escaped, escape_text, json_escape, code_escape, four_digits, shown_char, escaped}

-- ---- escapes are ASCII

abbrev Own : List ℕ → Type 0
Own cs = encode_utf8_all cs ≡ cs

pub own : (c : ℕ) (cs : List ℕ) → c < 128 → encode_utf8_all cs ≡ cs → encode_utf8_all (c ∷ cs) ≡ c ∷ cs
own c cs l e = λ i. encode_ascii c l i ++ e i

pub low_hex : (d : ℕ) → d < 16 → hex_digit d < 128
low_hex d l = cond_both (nat_lt d 10) (48 + d) (55 + d) (λ z. z < 128) (λ _. omega (arith, l)) (λ _. omega (arith, l))

pub four_own : (n : ℕ) → encode_utf8_all (four_digits n) ≡ four_digits n
four_own n = own _ _ (low_hex (n / 4096 % 16) (omega arith)) (own _ _ (low_hex (n / 256 % 16) (omega arith)) (own _ _ (low_hex (n / 16 % 16) (omega arith)) (own _ _ (low_hex (n % 16) (omega arith)) refl)))

eight_own : (n : ℕ) → encode_utf8_all (four_digits (n / 65536) ++ four_digits n) ≡ four_digits (n / 65536) ++ four_digits n
eight_own n = encodes-append (four_digits (n / 65536)) (four_digits n) ∙ (λ i. four_own (n / 65536) i ++ four_own n i)

code_own : (l : Language) (c : ℕ) → Own (code_escape l c)
code_own Json c = own 92 _ (omega arith) (own 117 _ (omega arith) (four_own c))
code_own Yaml c =
    cond_both (nat_lt c 256) _ _ Own (λ _. own 92 _ (omega arith) (own 120 _ (omega arith) (own _ _ (low_hex (c / 16 % 16) (omega arith)) (own _ _ (low_hex (c % 16) (omega arith)) refl))))
    (λ _. cond_both (nat_lt c 65536) _ _ Own (λ _. own 92 _ (omega arith) (own 117 _ (omega arith) (four_own c))) (λ _. own 92 _ (omega arith) (own 85 _ (omega arith) (eight_own c))))

two_own : (b : ℕ) → b < 128 → Own (92 ∷ b ∷ [])
two_own b l = own 92 _ (omega arith) (own b _ l refl)

json_own : (c : ℕ) → Own (json_escape c)
unfolding json_escape
json_own c =
    cond_both (c == 13) _ _ Own (λ _. two_own 114 (omega arith)) (λ _. cond_both (c == 8) _ _ Own (λ _. two_own 98 (omega arith)) (λ _. cond_both (c == 12) _ _ Own (λ _. two_own 102 (omega arith)) (λ _. code_own Json c)))

pub escape_own : (l : Language) (c : ℕ) → encode_utf8_all (escape_text l c) ≡ escape_text l c
unfolding escape_text
escape_own Yaml c =
    cond_both (c == 34) _ _ Own (λ _. two_own 34 (omega arith)) (λ _. cond_both (c == 92) _ _ Own (λ _. two_own 92 (omega arith)) (λ _. cond_both (c == 10) _ _ Own (λ _. two_own 110 (omega arith))
    (λ _. cond_both (c == 9) _ _ Own (λ _. two_own 116 (omega arith)) (λ _. code_own Yaml c))))
escape_own Json c =
    cond_both (c == 34) _ _ Own (λ _. two_own 34 (omega arith)) (λ _. cond_both (c == 92) _ _ Own (λ _. two_own 92 (omega arith)) (λ _. cond_both (c == 10) _ _ Own (λ _. two_own 110 (omega arith))
    (λ _. cond_both (c == 9) _ _ Own (λ _. two_own 116 (omega arith)) (λ _. json_own c))))

-- ---- one character

itself : (l : Language) (c : ℕ) → is_escaped l c ≡ false → encode_utf8_all (shown_char l c) ≡ encode_utf8 c
itself l c h = ap (λ b. encode_utf8_all (cond b (escape_text l c) (c ∷ []))) h ∙ append-nil (encode_utf8 c)

escapes : (l : Language) (c : ℕ) → is_escaped l c ≡ true → encode_utf8_all (shown_char l c) ≡ escape_text l c
escapes l c h = ap (λ b. encode_utf8_all (cond b (escape_text l c) (c ∷ []))) h ∙ escape_own l c

-- ---- runs

-- The text is a front that is written, a run from `start` that is not, and `rest`, which begins at `at`.
pub record IsEscaping (l : Language) (text rest : List ℕ) (at start : ℕ) (old out : List ℕ) : Type 0 where
  pub front : List ℕ
  pub run : List ℕ
  pub split : text ≡ front ++ (encode_utf8_all run ++ rest)
  pub begins : start ≡ length front
  pub ends : at ≡ start + length (encode_utf8_all run)
  pub whole : IsUtf8 (encode_utf8_all run ++ rest)
  pub utf8 : IsUtf8 rest
  pub shows : out ++ (encode_utf8_all run ++ escaped l rest) ≡ old ++ escaped l text

module _ (l : Language) where
  none : (text old : List ℕ) → IsUtf8 text → IsEscaping l text text 0 0 old old
  none text old u = record { front = []; run = []; split = refl; begins = refl; ends = refl; whole = u; utf8 = u; shows = refl }

  pub first : (text rest old : List ℕ) (at : ℕ) → IsUtf8 text → rest ≡ text → at ≡ 0 → IsEscaping l text rest at 0 old old
  first text rest old at u e f = subst (λ x. IsEscaping l text x at 0 old old) (sym e) (subst (λ n. IsEscaping l text text n 0 old old) (sym f) (none text old u))

  encoded_more : (run : List ℕ) (c : ℕ) → encode_utf8_all (run ++ (c ∷ [])) ≡ encode_utf8_all run ++ encode_utf8 c
  encoded_more run c = encodes-append run (c ∷ []) ∙ ap (λ x. encode_utf8_all run ++ x) (append-nil (encode_utf8 c))

  -- a character moves to the run
  moved : (run : List ℕ) (c : ℕ) (rest after : List ℕ) → rest ≡ encode_utf8 c ++ after → encode_utf8_all run ++ rest ≡ encode_utf8_all (run ++ (c ∷ [])) ++ after
  moved run c rest after e =
      ap (λ x. encode_utf8_all run ++ x) e ∙ sym (append_assoc (encode_utf8_all run) (encode_utf8 c) after) ∙ ap (λ x. x ++ after) (sym (encoded_more run c))

  -- what is shown of the rest begins with this character
  next_shown : (rest after : List ℕ) (c : ℕ) → IsUtf8 rest → rest ≡ encode_utf8 c ++ after → escaped l rest ≡ encode_utf8_all (shown_char l c) ++ escaped l after
  next_shown rest after c u e =
      ap (λ x. encode_utf8_all (flat_map (shown_char l) x)) (chars_past_char rest after c u e) ∙ encodes-append (shown_char l c) (flat_map (shown_char l) (chars after))

  more : (text rest after : List ℕ) (at next start c : ℕ) (old out : List ℕ) → IsEscaping l text rest at start old out → rest ≡ encode_utf8 c ++ after → next ≡ at + length (encode_utf8 c) → is_escaped l c ≡ false
      → IsEscaping l text after next start old out
  more text rest after at next start c old out h e n v = record {
    front = h.front;
    run = h.run ++ (c ∷ []);
    split = h.split ∙ ap (λ x. h.front ++ x) (moved h.run c rest after e);
    begins = h.begins;
    ends = omega (arith, h.ends, n, ap length (encoded_more h.run c), length-append (encode_utf8_all h.run) (encode_utf8 c));
    whole = subst IsUtf8 (moved h.run c rest after e) h.whole;
    utf8 = IsUtf8-past_char rest after c h.utf8 e;
    shows = ap (λ x. out ++ (x ++ escaped l after)) (encoded_more h.run c) ∙ ap (λ x. out ++ x) (append_assoc (encode_utf8_all h.run) (encode_utf8 c) (escaped l after))
        ∙ ap (λ x. out ++ (encode_utf8_all h.run ++ x)) (ap (λ x. x ++ escaped l after) (sym (itself l c v)) ∙ sym (next_shown rest after c h.utf8 e)) ∙ h.shows;
  }

  -- the same of what a call of `next` says
  pub further : (text rest after : List ℕ) (at next start c i : ℕ) (old out : List ℕ) → IsEscaping l text rest at start old out → (i ≡ at) × (rest ≡ encode_utf8 c ++ after) × (next ≡ at + length (encode_utf8 c))
      → is_escaped l c ≡ false → IsEscaping l text after next start old out
  further text rest after at next start c i old out h s v = more text rest after at next start c old out h s.1 s.2 v

  -- what the slice from `start` to `at` holds
  run_taken : (text rest : List ℕ) (at start : ℕ) (old out : List ℕ) (h : IsEscaping l text rest at start old out) → take (at - start) (drop start text) ≡ encode_utf8_all h.run
  run_taken text rest at start old out h =
      let d : drop start text ≡ encode_utf8_all h.run ++ rest = ap (λ n. drop n text) h.begins ∙ ap (drop (length h.front)) h.split ∙ drop-append_seam h.front (encode_utf8_all h.run ++ rest) in
      let n : at - start ≡ length (encode_utf8_all h.run) = omega (arith, h.ends) in
      ap (λ k. take k (drop start text)) n ∙ ap (take (length (encode_utf8_all h.run))) d ∙ take-append_seam (encode_utf8_all h.run) rest

  pub border : (text rest : List ℕ) (at start : ℕ) (old out : List ℕ) → IsEscaping l text rest at start old out → IsCharBoundary text start
  border text rest at start old out h = subst (IsCharBoundary text) (sym h.begins) (IsCharBoundary-at_seam text h.front (encode_utf8_all h.run ++ rest) h.split h.whole)

  regroup : (out a b c : List ℕ) → ((out ++ a) ++ b) ++ c ≡ out ++ (a ++ (b ++ c))
  regroup out a b c = simp append_assoc

  -- the run and then an escape are written
  restarted : (text rest after : List ℕ) (at next start c : ℕ) (old out pushed new : List ℕ) → IsEscaping l text rest at start old out → rest ≡ encode_utf8 c ++ after → next ≡ at + length (encode_utf8 c)
      → is_escaped l c ≡ true → pushed ≡ out ++ take (at - start) (drop start text) → new ≡ pushed ++ escape_text l c → IsEscaping l text after next next old new
  restarted text rest after at next start c old out pushed new h e n v p w =
      let u = IsUtf8-past_char rest after c h.utf8 e in
      record {
        front = h.front ++ encode_utf8_all (h.run ++ (c ∷ []));
        run = [];
        split = h.split ∙ ap (λ x. h.front ++ x) (moved h.run c rest after e) ∙ sym (append_assoc h.front (encode_utf8_all (h.run ++ (c ∷ []))) after);
        begins = omega (arith, h.ends, h.begins, n, ap length (encoded_more h.run c), length-append (encode_utf8_all h.run) (encode_utf8 c), length-append h.front (encode_utf8_all (h.run ++ (c ∷ []))));
        ends = omega arith;
        whole = u;
        utf8 = u;
        shows = let x : new ≡ (out ++ encode_utf8_all h.run) ++ encode_utf8_all (shown_char l c) = w ∙ (λ i. (p ∙ ap (λ z. out ++ z) (run_taken text rest at start old out h)) i ++ sym (escapes l c v) i) in
            ap (λ z. z ++ escaped l after) x ∙ regroup out (encode_utf8_all h.run) (encode_utf8_all (shown_char l c)) (escaped l after)
            ∙ ap (λ z. out ++ (encode_utf8_all h.run ++ z)) (sym (next_shown rest after c h.utf8 e)) ∙ h.shows;
      }

  -- what is written with the run, and what is left then
  pub run_within : (text rest : List ℕ) (at start i : ℕ) (old out piece : List ℕ) → IsEscaping l text rest at start old out → i ≡ at → piece ≡ take (i - start) (drop start text)
      → old ++ escaped l text ≡ (out ++ piece) ++ escaped l rest
  run_within text rest at start i old out piece h e q =
      sym h.shows ∙ sym (append_assoc out (encode_utf8_all h.run) (escaped l rest))
      ∙ ap (λ z. (out ++ z) ++ escaped l rest) (sym (q ∙ ap (λ k. take (k - start) (drop start text)) e ∙ run_taken text rest at start old out h))

  -- the same with the escape behind it
  pub escape_within : (text rest after : List ℕ) (at next start c i : ℕ) (old out piece pushed : List ℕ) → IsEscaping l text rest at start old out
      → (i ≡ at) × (rest ≡ encode_utf8 c ++ after) × (next ≡ at + length (encode_utf8 c)) → is_escaped l c ≡ true → piece ≡ take (i - start) (drop start text) → pushed ≡ out ++ piece
      → old ++ escaped l text ≡ (pushed ++ escape_text l c) ++ escaped l after
  escape_within text rest after at next start c i old out piece pushed h s v q p =
      run_within text rest at start i old out piece h s.0 q ∙ ap (λ z. z ++ escaped l rest) (sym p)
      ∙ ap (λ z. pushed ++ z) (next_shown rest after c h.utf8 s.1 ∙ ap (λ z. z ++ escaped l after) (escapes l c v)) ∙ sym (append_assoc pushed (escape_text l c) (escaped l after))

  -- the same of the code's own numbers
  pub after_escape : (text rest after : List ℕ) (at next start c i start' : ℕ) (old out piece pushed new : List ℕ) → IsEscaping l text rest at start old out
      → (i ≡ at) × (rest ≡ encode_utf8 c ++ after) × (next ≡ at + length (encode_utf8 c)) → is_escaped l c ≡ true → start' ≡ i + length (encode_utf8 c) → piece ≡ take (i - start) (drop start text)
      → pushed ≡ out ++ piece → new ≡ pushed ++ escape_text l c → IsEscaping l text after next start' old new
  after_escape text rest after at next start c i start' old out piece pushed new h s v b q p w =
      let e : start' ≡ next = omega (arith, s.0, s.2, b) in
      let t : piece ≡ take (at - start) (drop start text) = q ∙ ap (λ k. take (k - start) (drop start text)) s.0 in
      subst (λ n. IsEscaping l text after next n old new) (sym e) (restarted text rest after at next start c old out pushed new h s.1 s.2 v (p ∙ ap (λ x. out ++ x) t) w)

  -- the last run is written
  pub all_shown : (text rest : List ℕ) (at start : ℕ) (old out new : List ℕ) → IsEscaping l text rest at start old out → rest ≡ [] → new ≡ out ++ drop start text → new ≡ old ++ escaped l text
  all_shown text rest at start old out new h e w =
      let d : drop start text ≡ encode_utf8_all h.run ++ rest = ap (λ n. drop n text) h.begins ∙ ap (drop (length h.front)) h.split ∙ drop-append_seam h.front (encode_utf8_all h.run ++ rest) in
      let empty : escaped l rest ≡ rest = ap (escaped l) e ∙ ap (λ x. encode_utf8_all (flat_map (shown_char l) x)) chars-nil ∙ sym e in
      w ∙ ap (λ x. out ++ x) (d ∙ ap (λ x. encode_utf8_all h.run ++ x) (sym empty)) ∙ h.shows
