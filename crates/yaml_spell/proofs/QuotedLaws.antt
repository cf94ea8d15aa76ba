-- A content's spelling, from its front on.
use Rattle.std.proofs.Common.{◌≡◌, ◌==◌, Bool, ℕ, suc, ◌+◌, ◌/◌, ◌<◌, ◌≤◌, true, false, cond, inl, inr, List, [], ◌∷◌, ◌++◌, length, take, drop, get_or, refl, sym, ◌∙◌, ap, subst, arith}
use Rattle.std.proofs.lemmas.List.{append_assoc, append-nil, length-append, length-take, get_or-take, get_or-append-add, take-append-drop, nil_from_length}
use Rattle.std.proofs.lemmas.List.Concat.{flat_map-append}
use Rattle.std.proofs.lemmas.Bool.{and_parts, cases_lt, ltb-true}
use Rattle.std.proofs.lemmas.Bool.Decides.{nat_tests}
use Rattle.std.proofs.lemmas.Str.{encode_ascii, encodes-append, encodes-chars, scalars-chars, chars-nil, chars-append, length-encode, len_utf8_bounds, IsUtf8-take, IsUtf8-drop}
use Rattle.std.specs.Prelude.{flat_map, nat_lt}
use Rattle.std.specs.Char.{encode_utf8}
use Rattle.std.specs.Str.{encode_utf8_all, chars, IsUtf8, IsCharBoundary}
use lib.Utf8.{scalar, scalars, scalar_cases, next}
use Rattle.yaml_definitions.specs.canonical.CharText.{spell_char}
use Rattle.yaml_scalar.specs.Spelling.{quoted_bytes, spelled_chars, is_verbatim}
use Rattle.yaml_scalar.proofs.SpellingLemmas.{next_spelled, verbatim_bytes, spelled_is}
use Rattle.yaml_spell.specs.Quoted.{Plain, Other, AllPlain}

-- ---- characters whose bytes are plain

ascii : (c : ℕ) (rest : List ℕ) → c < 128 → Plain (get_or (encode_utf8 c ++ rest) 0 0) → is_verbatim c ≡ true
ascii c rest s p = let e = ap (λ z. get_or (z ++ rest) 0 0) (encode_ascii c s) in subst (λ b. is_verbatim b ≡ true) e (p.0 (omega (arith, e, s)))

-- the bytes of a character by the two tests beyond ASCII
abbrev bytes_by : ℕ → Bool → Bool → List ℕ
bytes_by c b d = cond b ((192 + c / 64) ∷ next c ∷ []) (cond d ((224 + c / 4096) ∷ next (c / 64) ∷ next c ∷ []) ((240 + c / 262144) ∷ next (c / 4096) ∷ next (c / 64) ∷ next c ∷ []))

two : (c : ℕ) (rest : List ℕ) → 128 ≤ c → c < 2048 → get_or (encode_utf8 c ++ rest) 0 0 ≡ 192 + c / 64
unfolding encode_utf8
two c rest l h = by (nat_lt c 128) (nat_lt c 2048) refl refl
  where
    by : (a b : Bool) → nat_lt c 128 ≡ a → nat_lt c 2048 ≡ b → get_or (cond a (c ∷ []) (bytes_by c b (nat_lt c 65536)) ++ rest) 0 0 ≡ 192 + c / 64
    by true b e f = absurd (omega (arith, ltb-true c 128 e, l))
    by false true e f = refl
    by false false e f = absurd (grind (arith, nat_tests))

three : (c : ℕ) (rest : List ℕ) → 2048 ≤ c → c < 65536 → get_or (encode_utf8 c ++ rest) 0 0 ≡ 224 + c / 4096
unfolding encode_utf8
three c rest l h = by (nat_lt c 128) (nat_lt c 2048) (nat_lt c 65536) refl refl refl
  where
    by : (a b d : Bool) → nat_lt c 128 ≡ a → nat_lt c 2048 ≡ b → nat_lt c 65536 ≡ d → get_or (cond a (c ∷ []) (bytes_by c b d) ++ rest) 0 0 ≡ 224 + c / 4096
    by true b d e f g = absurd (omega (arith, ltb-true c 128 e, l))
    by false true d e f g = absurd (omega (arith, ltb-true c 2048 f, l))
    by false false true e f g = refl
    by false false false e f g = absurd (grind (arith, nat_tests))

low : (c : ℕ) → 160 ≤ c → c < 2048 → is_verbatim c ≡ true
unfolding is_verbatim
low c l h = grind (arith, nat_tests)

middle : (c : ℕ) → scalar c ≡ true → 2048 ≤ c → c < 61440 → is_verbatim c ≡ true
unfolding is_verbatim
middle c s l h = elim (scalar_cases c s) [ inl a ↦ grind (arith, nat_tests) | inr a ↦ grind (arith, nat_tests) ]

high : (c : ℕ) → scalar c ≡ true → 65536 ≤ c → is_verbatim c ≡ true
unfolding is_verbatim
high c s l = elim (scalar_cases c s) [ inl a ↦ absurd (omega (arith, a, l)) | inr a ↦ grind (arith, nat_tests) ]

-- the first byte of a character tells enough
verbatim_first : (c : ℕ) (rest : List ℕ) → scalar c ≡ true → Plain (get_or (encode_utf8 c ++ rest) 0 0) → is_verbatim c ≡ true
verbatim_first c rest s p = elim (cases_lt c 128) [
  | inl a ↦ ascii c rest a p
  | inr a ↦ elim (cases_lt c 2048) [
    | inl b ↦ let e = two c rest a b in elim (cases_lt c 192) [ inl d ↦ absurd (p.1 (omega (arith, e, a, d))) | inr d ↦ low c (omega (arith, d)) b ]
    | inr b ↦ elim (cases_lt c 65536) [
      | inl d ↦ let e = three c rest b d in elim (cases_lt c 61440) [ inl f ↦ middle c s b f | inr f ↦ absurd (p.2 (omega (arith, e, d, f))) ]
      | inr d ↦ high c s d
    ]
  ]
]

verbatim_all : (cs : List ℕ) → scalars cs ≡ true → AllPlain (encode_utf8_all cs) → encode_utf8_all (flat_map spell_char cs) ≡ encode_utf8_all cs
verbatim_all [] s h = refl
verbatim_all (c ∷ cs) s h =
    let both : (scalar c ≡ true) × (scalars cs ≡ true) = and_parts _ _ s in
    let long : length (encode_utf8 c ++ encode_utf8_all cs) ≡ length (encode_utf8 c) + length (encode_utf8_all cs) = length-append (encode_utf8 c) (encode_utf8_all cs) in
    let some : 0 < length (encode_utf8 c) = omega (arith, length-encode c, (len_utf8_bounds c).0) in
    let first = verbatim_bytes c (verbatim_first c (encode_utf8_all cs) both.0 (h 0 (omega (arith, long, some)))) in
    let rest = verbatim_all cs both.1 (λ k l. subst Plain (get_or-append-add (encode_utf8 c) (encode_utf8_all cs) k 0) (h (length (encode_utf8 c) + k) (omega (arith, long, l)))) in
    encodes-append (spell_char c) (flat_map spell_char cs) ∙ (λ i. first i ++ rest i)

plain_spelled : (bytes : List ℕ) → IsUtf8 bytes → AllPlain bytes → spelled_chars bytes ≡ bytes
plain_spelled bytes u h =
    let e = encodes-chars bytes u in
    verbatim_all (chars bytes) (scalars-chars bytes u) (subst AllPlain (sym e) h) ∙ e

-- the text's front of so many bytes is written as it is
pub plain_front : (text : List ℕ) (n : ℕ) → IsUtf8 text → IsCharBoundary text n → ((k : ℕ) → k < n → Plain (get_or text k 0)) → spelled_chars text ≡ take n text ++ spelled_chars (drop n text)
plain_front text n u b h =
    let v = IsUtf8-take text n u b in
    let w = length-take n text in
    let kept = plain_spelled (take n text) v (λ k l. let e : k < n = omega (arith, l, w) in subst Plain (sym (get_or-take n text k 0 e)) (h k e)) in
    ap spelled_chars (sym (take-append-drop n text)) ∙ ap (λ z. encode_utf8_all (flat_map spell_char z)) (chars-append (take n text) (drop n text) v)
    ∙ ap encode_utf8_all (flat_map-append spell_char (chars (take n text)) (chars (drop n text))) ∙ encodes-append (flat_map spell_char (chars (take n text))) (flat_map spell_char (chars (drop n text)))
    ∙ ap (λ z. z ++ spelled_chars (drop n text)) kept

-- a byte that is not plain begins a character
pub other_border : (text : List ℕ) (n : ℕ) → n ≤ length text → (n < length text → Other (get_or text n 0)) → IsCharBoundary text n
other_border text n l h = (l, λ e b. elim ((h e).1 b) [ inl f ↦ omega (arith, f) | inr f ↦ omega (arith, f) ])

pub plain_whole : (text : List ℕ) → IsUtf8 text → AllPlain text → quoted_bytes text ≡ 34 ∷ (text ++ (34 ∷ []))
plain_whole text u h = spelled_is text ∙ ap (λ z. 34 ∷ (z ++ (34 ∷ []))) (plain_spelled text u h)

-- ---- what is written as it is

pub plain_long : (text : List ℕ) → quoted_bytes text ≡ 34 ∷ (text ++ (34 ∷ [])) → length text + 2 ≡ length (quoted_bytes text)
plain_long text e =
    let k : length (quoted_bytes text) ≡ suc (length text + 1) = ap length e ∙ ap suc (length-append text (34 ∷ [])) in
    omega (arith, k)

-- a character behind the front, or none
pub cut_some : (text run tail rest : List ℕ) (n c : ℕ) → spelled_chars text ≡ take n text ++ spelled_chars (drop n text) → run ≡ take n text → tail ≡ drop n text → IsUtf8 text → IsCharBoundary text n → tail ≡ encode_utf8 c ++ rest
    → spelled_chars text ≡ (run ++ encode_utf8_all (spell_char c)) ++ spelled_chars rest
cut_some text run tail rest n c h e f v b g =
    let u = subst IsUtf8 (sym f) (IsUtf8-drop text n v b) in
    h ∙ (λ i. sym e i ++ spelled_chars (sym f i)) ∙ ap (λ z. run ++ z) (next_spelled tail rest c u g) ∙ sym (append_assoc run (encode_utf8_all (spell_char c)) (spelled_chars rest))

pub cut_none : (text run tail : List ℕ) (n : ℕ) → spelled_chars text ≡ take n text ++ spelled_chars (drop n text) → run ≡ take n text → tail ≡ drop n text → tail ≡ [] → spelled_chars text ≡ (run ++ []) ++ spelled_chars []
cut_none text run tail n h e f g = h ∙ (λ i. sym e i ++ spelled_chars ((sym f ∙ g) i)) ∙ ap (λ z. z ++ spelled_chars []) (sym (append-nil run))

-- ---- lengths

-- so many bytes were taken of a content's spelling, but for that of the rest
pub record Measured (first len : ℕ) (content rest : List ℕ) : Type 0 where
  pub is : len + length (spelled_chars rest) ≡ first + length (quoted_bytes content)

pub measured_first : (first len : ℕ) (content : List ℕ) → len ≡ first + 2 → Measured first len content content
measured_first first len content e =
    let f : length (quoted_bytes content) ≡ suc (length (spelled_chars content) + 1) = ap length (spelled_is content) ∙ ap suc (length-append (spelled_chars content) (34 ∷ [])) in
    record { is = omega (arith, e, f) }

pub measured_next : (first len next : ℕ) (content rest after piece : List ℕ) → Measured first len content rest → spelled_chars rest ≡ piece ++ spelled_chars after → next ≡ len + length piece → Measured first next content after
measured_next first len next content rest after piece m f e =
    let k : length (spelled_chars rest) ≡ length piece + length (spelled_chars after) = ap length f ∙ length-append piece (spelled_chars after) in
    let h = m.is in
    record { is = omega (arith, e, k, h) }

pub measured_last : (first len : ℕ) (content rest : List ℕ) → Measured first len content rest → rest ≡ [] → len ≡ first + length (quoted_bytes content)
measured_last first len content rest m e =
    let k : length (spelled_chars rest) ≡ 0 = ap (λ z. length (spelled_chars z)) e ∙ ap (λ z. length (encode_utf8_all (flat_map spell_char z))) chars-nil in
    let h = m.is in
    omega (arith, k, h)

pub quotes_past : (limit first : ℕ) (content : List ℕ) → limit < first + 2 → limit < first + length (quoted_bytes content)
quotes_past limit first content l =
    let f : length (quoted_bytes content) ≡ suc (length (spelled_chars content) + 1) = ap length (spelled_is content) ∙ ap suc (length-append (spelled_chars content) (34 ∷ [])) in
    omega (arith, f, l)

-- nothing is left
pub all_taken : (rest : List ℕ) (b : Bool) → b ≡ (length rest == 0) → b ≡ true → rest ≡ []
all_taken rest b e f = nil_from_length rest (let h : (length rest == 0) ≡ true = sym e ∙ f in grind (arith, nat_tests))
