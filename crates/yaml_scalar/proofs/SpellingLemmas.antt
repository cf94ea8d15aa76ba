-- A content's characters, spelled by runs of those that stand for themselves.
use Rattle.std.proofs.Common.{◌≡◌, ◌≢◌, ◌==◌, ◌+◌, ◌-◌, ◌*◌, ◌<◌, ◌≤◌, ℕ, true, false, List, [], ◌∷◌, ◌++◌, length, take, drop, refl, sym, ◌∙◌, ap, subst, arith}
use Rattle.std.proofs.lemmas.Bool.Decides.{nat_tests}
use Rattle.std.proofs.lemmas.List.{append_assoc, append-nil, length-append}
use Rattle.std.proofs.Math.Seq.{drop-append_seam, take-append_seam}
use Rattle.std.specs.Char.{encode_utf8}
use Rattle.std.specs.Str.{encode_utf8_all, IsUtf8, IsCharBoundary, chars}
use Rattle.std.specs.Prelude.{flat_map, Result, Ok, Err, is_ok, if◌then◌else◌}
use Rattle.std.proofs.lemmas.Str.{encodes-append, chars_past_char, IsUtf8-past_char, IsCharBoundary-at_seam, IsCharBoundary-from_take, len_utf8_bounds, length-encode, chars-nil}
use lib.Utf8.{scalar}
use Rattle.yaml_definitions.specs.canonical.CharText.{is_plain, spell_char}
use Rattle.yaml_definitions.specs.canonical.NodeText.{quoted}
use Rattle.yaml_definitions.proofs.CharLaws.{low}
use Rattle.yaml_scalar.specs.Spelling.{Grows, is_verbatim, code_text, quoted_bytes, spelled_chars}

-- ---- one character

plain_from : (c : ℕ) → is_verbatim c ≡ false → c ≢ 34 → c ≢ 92 → is_plain c ≡ false
unfolding is_verbatim
plain_from c h n m = grind (arith, nat_tests)

pub code_low : (c : ℕ) → scalar c ≡ true → is_verbatim c ≡ false → c ≢ 34 → c ≢ 92 → c < 65536
code_low c s h n m = low c s (plain_from c h n m)

eq_false : (c d : ℕ) → c ≢ d → (c == d) ≡ false
eq_false c d n = grind (arith, nat_tests)

pub code_spells : (c : ℕ) → is_verbatim c ≡ false → c ≢ 34 → c ≢ 92 → c ≢ 10 → c ≢ 9 → spell_char c ≡ code_text c
unfolding spell_char
code_spells c h n m k l = rw (eq_false c 34 n, eq_false c 92 m, eq_false c 10 k, eq_false c 9 l, plain_from c h n m)

pub verbatim_spells : (c : ℕ) → is_verbatim c ≡ true → spell_char c ≡ c ∷ []
unfolding spell_char is_verbatim
verbatim_spells c h = rw (eq_false c 34 (λ e. grind (arith, nat_tests)), eq_false c 92 (λ e. grind (arith, nat_tests)), eq_false c 10 (λ e. grind (arith, nat_tests)), eq_false c 9 (λ e. grind (arith, nat_tests)), plain c h) refl
  where
    plain : (x : ℕ) → is_verbatim x ≡ true → is_plain x ≡ true
    plain x g = grind (arith, nat_tests)

-- and as bytes
pub verbatim_bytes : (c : ℕ) → is_verbatim c ≡ true → encode_utf8_all (spell_char c) ≡ encode_utf8 c
verbatim_bytes c h = ap encode_utf8_all (verbatim_spells c h) ∙ append-nil (encode_utf8 c)

-- ---- runs

-- The text is a front that is written, a run from `start` that is not, and `rest`, which begins at `at`.
pub record IsSpelling (text rest : List ℕ) (at start : ℕ) (old out : List ℕ) : Type 0 where
  pub front : List ℕ
  pub run : List ℕ
  pub split : text ≡ front ++ (encode_utf8_all run ++ rest)
  pub begins : start ≡ length front
  pub ends : at ≡ start + length (encode_utf8_all run)
  pub whole : IsUtf8 (encode_utf8_all run ++ rest)
  pub utf8 : IsUtf8 rest
  pub spells : out ++ (encode_utf8_all run ++ spelled_chars rest) ≡ old ++ spelled_chars text

pub spelling_none : (text old : List ℕ) → IsUtf8 text → IsSpelling text text 0 0 old old
spelling_none text old u = record { front = []; run = []; split = refl; begins = refl; ends = refl; whole = u; utf8 = u; spells = refl }

pub spelling_first : (text rest old : List ℕ) (at : ℕ) → IsUtf8 text → rest ≡ text → at ≡ 0 → IsSpelling text rest at 0 old old
spelling_first text rest old at u e f = subst (λ x. IsSpelling text x at 0 old old) (sym e) (subst (λ n. IsSpelling text text n 0 old old) (sym f) (spelling_none text old u))

encoded_more : (run : List ℕ) (c : ℕ) → encode_utf8_all (run ++ (c ∷ [])) ≡ encode_utf8_all run ++ encode_utf8 c
encoded_more run c = encodes-append run (c ∷ []) ∙ ap (λ x. encode_utf8_all run ++ x) (append-nil (encode_utf8 c))

-- a character moves to the run
moved : (run : List ℕ) (c : ℕ) (rest after : List ℕ) → rest ≡ encode_utf8 c ++ after → encode_utf8_all run ++ rest ≡ encode_utf8_all (run ++ (c ∷ [])) ++ after
moved run c rest after e =
    ap (λ x. encode_utf8_all run ++ x) e ∙ sym (append_assoc (encode_utf8_all run) (encode_utf8 c) after) ∙ ap (λ x. x ++ after) (sym (encoded_more run c))

-- the spelling of what is left begins with this one's
pub next_spelled : (rest after : List ℕ) (c : ℕ) → IsUtf8 rest → rest ≡ encode_utf8 c ++ after → spelled_chars rest ≡ encode_utf8_all (spell_char c) ++ spelled_chars after
next_spelled rest after c u e =
    ap (λ x. encode_utf8_all (flat_map spell_char x)) (chars_past_char rest after c u e) ∙ encodes-append (spell_char c) (flat_map spell_char (chars after))

pub spelling_more : (text rest after : List ℕ) (at next start c : ℕ) (old out : List ℕ) → IsSpelling text rest at start old out → rest ≡ encode_utf8 c ++ after → next ≡ at + length (encode_utf8 c) → is_verbatim c ≡ true
    → IsSpelling text after next start old out
spelling_more text rest after at next start c old out h e n v = record {
  front = h.front;
  run = h.run ++ (c ∷ []);
  split = h.split ∙ ap (λ x. h.front ++ x) (moved h.run c rest after e);
  begins = h.begins;
  ends = omega (arith, h.ends, n, ap length (encoded_more h.run c), length-append (encode_utf8_all h.run) (encode_utf8 c));
  whole = subst IsUtf8 (moved h.run c rest after e) h.whole;
  utf8 = IsUtf8-past_char rest after c h.utf8 e;
  spells = let itself : encode_utf8_all (spell_char c) ≡ encode_utf8 c = ap encode_utf8_all (verbatim_spells c v) ∙ append-nil (encode_utf8 c) in
      ap (λ x. out ++ (x ++ spelled_chars after)) (encoded_more h.run c) ∙ ap (λ x. out ++ x) (append_assoc (encode_utf8_all h.run) (encode_utf8 c) (spelled_chars after))
      ∙ ap (λ x. out ++ (encode_utf8_all h.run ++ x)) (ap (λ x. x ++ spelled_chars after) (sym itself) ∙ sym (next_spelled rest after c h.utf8 e)) ∙ h.spells;
}

-- what the slice from `start` to `at` holds
run_taken : (text rest : List ℕ) (at start : ℕ) (old out : List ℕ) (h : IsSpelling text rest at start old out) → take (at - start) (drop start text) ≡ encode_utf8_all h.run
run_taken text rest at start old out h =
    let d : drop start text ≡ encode_utf8_all h.run ++ rest = ap (λ n. drop n text) h.begins ∙ ap (drop (length h.front)) h.split ∙ drop-append_seam h.front (encode_utf8_all h.run ++ rest) in
    let n : at - start ≡ length (encode_utf8_all h.run) = omega (arith, h.ends) in
    ap (λ k. take k (drop start text)) n ∙ ap (take (length (encode_utf8_all h.run))) d ∙ take-append_seam (encode_utf8_all h.run) rest

pub spelling_start : (text rest : List ℕ) (at start : ℕ) (old out : List ℕ) → IsSpelling text rest at start old out → IsCharBoundary text start
spelling_start text rest at start old out h = subst (IsCharBoundary text) (sym h.begins) (IsCharBoundary-at_seam text h.front (encode_utf8_all h.run ++ rest) h.split h.whole)

regroup : (out a b c : List ℕ) → ((out ++ a) ++ b) ++ c ≡ out ++ (a ++ (b ++ c))
regroup out a b c = simp append_assoc

-- the run and then an escape are written
spelling_escaped : (text rest after : List ℕ) (at next start c : ℕ) (old out pushed new : List ℕ) → IsSpelling text rest at start old out → rest ≡ encode_utf8 c ++ after → next ≡ at + length (encode_utf8 c)
    → pushed ≡ out ++ take (at - start) (drop start text) → new ≡ pushed ++ encode_utf8_all (spell_char c) → IsSpelling text after next next old new
spelling_escaped text rest after at next start c old out pushed new h e n p w =
    let u = IsUtf8-past_char rest after c h.utf8 e in
    record {
      front = h.front ++ encode_utf8_all (h.run ++ (c ∷ []));
      run = [];
      split = h.split ∙ ap (λ x. h.front ++ x) (moved h.run c rest after e) ∙ sym (append_assoc h.front (encode_utf8_all (h.run ++ (c ∷ []))) after);
      begins = omega (arith, h.ends, h.begins, n, ap length (encoded_more h.run c), length-append (encode_utf8_all h.run) (encode_utf8 c), length-append h.front (encode_utf8_all (h.run ++ (c ∷ []))));
      ends = omega arith;
      whole = u;
      utf8 = u;
      spells = let v : new ≡ (out ++ encode_utf8_all h.run) ++ encode_utf8_all (spell_char c) = w ∙ ap (λ x. x ++ encode_utf8_all (spell_char c)) (p ∙ ap (λ x. out ++ x) (run_taken text rest at start old out h)) in
          ap (λ x. x ++ spelled_chars after) v ∙ regroup out (encode_utf8_all h.run) (encode_utf8_all (spell_char c)) (spelled_chars after)
          ∙ ap (λ x. out ++ (encode_utf8_all h.run ++ x)) (sym (next_spelled rest after c h.utf8 e)) ∙ h.spells;
    }

-- the same of the code's own numbers
pub spelling_restarted : (text rest after : List ℕ) (at next start c i start' : ℕ) (old out piece pushed new : List ℕ) → IsSpelling text rest at start old out → (i ≡ at) × (rest ≡ encode_utf8 c ++ after) × (next ≡ at + length (encode_utf8 c))
    → start' ≡ i + length (encode_utf8 c) → piece ≡ take (i - start) (drop start text) → pushed ≡ out ++ piece → new ≡ pushed ++ encode_utf8_all (spell_char c) → IsSpelling text after next start' old new
spelling_restarted text rest after at next start c i start' old out piece pushed new h s b q p w =
    let e : start' ≡ next = omega (arith, s.0, s.2) in
    let t : piece ≡ take (at - start) (drop start text) = q ∙ ap (λ k. take (k - start) (drop start text)) s.0 in
    subst (λ n. IsSpelling text after next n old new) (sym e) (spelling_escaped text rest after at next start c old out pushed new h s.1 s.2 (p ∙ ap (λ x. out ++ x) t) w)

-- the last run is written
pub spelling_all : (text rest : List ℕ) (at start : ℕ) (old out new : List ℕ) → IsSpelling text rest at start old out → rest ≡ [] → new ≡ out ++ drop start text → new ≡ old ++ spelled_chars text
spelling_all text rest at start old out new h e w =
    let d : drop start text ≡ encode_utf8_all h.run ++ rest = ap (λ n. drop n text) h.begins ∙ ap (drop (length h.front)) h.split ∙ drop-append_seam h.front (encode_utf8_all h.run ++ rest) in
    let none : spelled_chars rest ≡ rest = ap spelled_chars e ∙ ap (λ x. encode_utf8_all (flat_map spell_char x)) chars-nil ∙ sym e in
    w ∙ ap (λ x. out ++ x) (d ∙ ap (λ x. encode_utf8_all h.run ++ x) (sym none)) ∙ h.spells

-- ---- the quotes

quoted_flat : (cs : List ℕ) → quoted cs [] ≡ flat_map spell_char cs ++ (34 ∷ [])
quoted_flat [] = refl
quoted_flat (c ∷ cs) = ap (λ x. spell_char c ++ x) (quoted_flat cs) ∙ sym (append_assoc (spell_char c) (flat_map spell_char cs) (34 ∷ []))

pub spelled_is : (text : List ℕ) → quoted_bytes text ≡ 34 ∷ (spelled_chars text ++ (34 ∷ []))
unfolding encode_utf8
spelled_is text = ap (λ x. 34 ∷ encode_utf8_all x) (quoted_flat (chars text)) ∙ ap (λ x. 34 ∷ x) (encodes-append (flat_map spell_char (chars text)) (34 ∷ []))

-- what stands after a spelling
pub quoted_more : (cs more : List ℕ) → quoted cs more ≡ quoted cs [] ++ more
quoted_more [] more = refl
quoted_more (c ∷ cs) more = ap (λ x. spell_char c ++ x) (quoted_more cs more) ∙ sym (append_assoc (spell_char c) (quoted cs []) more)

pub spelled_pushed : (text old a b new : List ℕ) → a ≡ old ++ (34 ∷ []) → b ≡ a ++ spelled_chars text → new ≡ b ++ (34 ∷ []) → new ≡ old ++ quoted_bytes text
spelled_pushed text old a b new e f g =
    g ∙ ap (λ x. x ++ (34 ∷ [])) (f ∙ ap (λ x. x ++ spelled_chars text) e) ∙ together old (34 ∷ []) (spelled_chars text) (34 ∷ []) ∙ ap (λ x. old ++ x) (sym (spelled_is text))
  where
    together : (a b c d : List ℕ) → ((a ++ b) ++ c) ++ d ≡ a ++ (b ++ (c ++ d))
    together a b c d = simp append_assoc

-- ---- growing

pub grows_none : (old : List ℕ) → Grows old old
grows_none old = record { added = []; is = sym (append-nil old) }

pub grows_more : (old a new x : List ℕ) → Grows old a → new ≡ a ++ x → Grows old new
grows_more old a new x g e = record { added = g.added ++ x; is = e ∙ ap (λ v. v ++ x) g.is ∙ append_assoc old g.added x }

pub grows_then : (old a new : List ℕ) → Grows old a → Grows a new → Grows old new
grows_then old a new g h = grows_more old a new h.added g h.is

-- by a growth that may have been refused
pub grows_result : {T E : Type 0} (r : Result T E) (old a new x : List ℕ) → Grows old a → new ≡ (if is_ok r then a ++ x else a) → Grows old new
grows_result (Ok y) old a new x g e = grows_more old a new x g e
grows_result (Err y) old a new x g e = subst (Grows old) (sym e) g

pub grown_border : (old new : List ℕ) (n : ℕ) → IsUtf8 old → IsUtf8 new → Grows old new → n ≡ length old → IsCharBoundary new n
grown_border old new n u v g e =
    let front : take n new ≡ old = ap (λ k. take k new) e ∙ ap (take (length old)) g.is ∙ take-append_seam old g.added in
    IsCharBoundary-from_take new n v (omega (arith, e, ap length g.is, length-append old g.added)) (subst IsUtf8 (sym front) u)

-- ---- lengths

pub measured_more : (rest after text : List ℕ) (c n len : ℕ) → IsUtf8 rest → rest ≡ encode_utf8 c ++ after → n ≡ length (encode_utf8_all (spell_char c)) → n ≤ 6 →
    len + length (spelled_chars rest) ≡ 2 + length (spelled_chars text) → len + 6 * length rest ≤ 2 + 6 * length text →
    (len + n + length (spelled_chars after) ≡ 2 + length (spelled_chars text)) × (len + n + 6 * length after ≤ 2 + 6 * length text)
measured_more rest after text c n len u e f b s m =
    let k = ap length (next_spelled rest after c u e) ∙ length-append (encode_utf8_all (spell_char c)) (spelled_chars after) in
    let l = ap length e ∙ length-append (encode_utf8 c) after in
    let one : 1 ≤ length (encode_utf8 c) = omega (arith, length-encode c, (len_utf8_bounds c).0) in
    (omega (arith, k, f, s), omega (arith, l, one, b, m))

pub measured_all : (rest text : List ℕ) (len : ℕ) → rest ≡ [] → len + length (spelled_chars rest) ≡ 2 + length (spelled_chars text) → len ≡ length (quoted_bytes text)
measured_all rest text len e s =
    let none : length (spelled_chars rest) ≡ 0 = ap (λ x. length (spelled_chars x)) e ∙ ap (λ x. length (encode_utf8_all (flat_map spell_char x))) chars-nil in
    let all : length (quoted_bytes text) ≡ 1 + length (spelled_chars text ++ (34 ∷ [])) = ap length (spelled_is text) ∙ omega arith in
    omega (arith, none, all, s, length-append (spelled_chars text) (34 ∷ []))
