-- A text whose characters are read one after another.
use Rattle.std.proofs.Common.{◌≡◌, ℕ, zero, suc, ◌+◌, ◌-◌, true, false, List, [], ◌∷◌, ◌++◌, ◌≤◌, ◌<◌, length, drop, get_or, refl, sym, ◌∙◌, ap, subst, add-one, rules, arith}
use Rattle.std.proofs.lemmas.List.{append_assoc, append-nil, length-append}
use Rattle.std.proofs.lemmas.List.Elements.{All-append}
use Rattle.std.proofs.Math.Seq.{drop-cons}
use Rattle.std.specs.List.{All}
use Rattle.std.specs.Char.{encode_utf8}
use Rattle.std.specs.Str.{encode_utf8_all, all_scalars, IsUtf8, IsCharBoundary, chars}
use Rattle.std.proofs.lemmas.Str.{encodes-append, encodes_same, chars_from_encodes, encode_ascii, IsUtf8-past_char, IsCharBoundary-from_drop}
use Rattle.yaml_definitions.specs.model.Limits.{text_limit}
use Rattle.yaml_definitions.specs.model.Text.{is_text, Text, mark_len}
use Rattle.yaml_text.specs.Refused.{AllText, IsFirstRefused, IsScanned}

pub scanned_none : (text : List ℕ) → IsScanned text text
scanned_none text = record { before = []; split = refl; permitted = search rules }

one : (c : ℕ) → is_text c ≡ true → All (λ d. is_text d ≡ true) (c ∷ [])
one c e = search rules

-- a front of the rest, too
pub scanned_on : (text rest tail : List ℕ) → IsScanned text rest → IsScanned rest tail → IsScanned text tail
scanned_on text rest tail h k = record {
  before = h.before ++ k.before;
  split = h.split ∙ ap (λ x. encode_utf8_all h.before ++ x) k.split ∙ sym (append_assoc (encode_utf8_all h.before) (encode_utf8_all k.before) tail) ∙ ap (λ x. x ++ tail) (sym (encodes-append h.before k.before));
  permitted = All-append (λ d. is_text d ≡ true) h.before k.before h.permitted k.permitted;
}

scanned_one : (rest after : List ℕ) (c : ℕ) → rest ≡ encode_utf8 c ++ after → is_text c ≡ true → IsScanned rest after
scanned_one rest after c e a = record { before = c ∷ []; split = e ∙ ap (λ x. x ++ after) (sym (append-nil (encode_utf8 c))); permitted = one c a }

pub scanned_more : (text rest after : List ℕ) (c : ℕ) → IsScanned text rest → rest ≡ encode_utf8 c ++ after → is_text c ≡ true → IsScanned text after
scanned_more text rest after c h e a = scanned_on text rest after h (scanned_one rest after c e a)

scanned_len : (text rest : List ℕ) (h : IsScanned text rest) → length text - length rest ≡ length (encode_utf8_all h.before)
scanned_len text rest h = let n = ap length h.split ∙ length-append (encode_utf8_all h.before) rest in omega (arith, n)

pub scanned_refused : (text rest after : List ℕ) (c : ℕ) → IsScanned text rest → rest ≡ encode_utf8 c ++ after → is_text c ≡ false → IsFirstRefused text (length text - length rest)
scanned_refused text rest after c h e a = record {
  before = h.before;
  refused = c;
  after = after;
  split = h.split ∙ ap (λ x. encode_utf8_all h.before ++ x) e;
  permitted = h.permitted;
  forbidden = a;
  place = scanned_len text rest h;
}

pub scanned_all : (text rest : List ℕ) → IsScanned text rest → rest ≡ [] → IsUtf8 text → AllText text
scanned_all text rest h e u =
    let whole : text ≡ encode_utf8_all h.before = h.split ∙ ap (λ x. encode_utf8_all h.before ++ x) e ∙ append-nil (encode_utf8_all h.before) in
    let same : u.0 ≡ h.before = encodes_same u.0 h.before (u.1.1 ∙ whole) in
    (h.before, whole, subst (λ cs. all_scalars cs ≡ true) same u.1.0, h.permitted)

-- the first so many bytes are ASCII characters that a text may hold
pub record AsciiTo (text : List ℕ) (i : ℕ) : Type 0 where
  pub scanned : IsScanned text (drop i text)
  pub utf8 : IsUtf8 (drop i text)

pub ascii_more : (text : List ℕ) (i b : ℕ) → AsciiTo text i → i < length text → get_or text i 0 ≡ b → b < 128 → is_text b ≡ true → AsciiTo text (i + 1)
ascii_more text i b r l e a v =
    let rest : drop i text ≡ encode_utf8 b ++ drop (i + 1) text =
    (rw add-one (drop-cons text i 0 l)) ∙ ap (λ x. x ∷ drop (i + 1) text) e ∙ ap (λ z. z ++ drop (i + 1) text) (sym (encode_ascii b a)) in
    record {
      scanned = scanned_more text (drop i text) (drop (i + 1) text) b r.scanned rest v;
      utf8 = IsUtf8-past_char (drop i text) (drop (i + 1) text) b r.utf8 rest;
    }

pub ascii_border : (text : List ℕ) (i : ℕ) → AsciiTo text i → i ≤ length text → IsCharBoundary text i
ascii_border text i r l = IsCharBoundary-from_drop text i l r.utf8

pub text_read : (bytes text : List ℕ) → length bytes ≤ text_limit → text ≡ drop (mark_len bytes) bytes → AllText text → Text bytes (chars text)
text_read bytes text short e h =
    let utf8 : IsUtf8 text = (h.0, (h.2, sym h.1)) in
    let same : h.0 ≡ chars text = chars_from_encodes h.0 text utf8 (sym h.1) in
    subst (λ cs. Text bytes cs) same record { short = short; decodes = sym e ∙ h.1; scalars = h.2; permitted = h.3 }

ascii_all : (text : List ℕ) (n : ℕ) → IsUtf8 text → n ≤ length text → ((k : ℕ) → k < n → (get_or text k 0 < 128) × (is_text (get_or text k 0) ≡ true)) → AsciiTo text n
ascii_all text zero u l h = record { scanned = scanned_none text; utf8 = u }
ascii_all text (suc n) u l h =
    let before = ascii_all text n u (omega (arith, l)) (λ k e. h k (omega (arith, e))) in
    let here = h n (omega arith) in
    let next : n + 1 ≡ suc n = omega arith in
    subst (AsciiTo text) next (ascii_more text n (get_or text n 0) before (omega (arith, l)) refl here.0 here.1)

pub ascii_front : (text bytes : List ℕ) (n : ℕ) → IsUtf8 text → bytes ≡ text → n ≤ length bytes → ((k : ℕ) → k < n → (get_or bytes k 0 < 128) × (is_text (get_or bytes k 0) ≡ true)) → AsciiTo text n
ascii_front text bytes n u e l h = ascii_all text n u (subst (λ z. n ≤ length z) e l) (subst (λ z. (k : ℕ) → k < n → (get_or z k 0 < 128) × (is_text (get_or z k 0) ≡ true)) e h)
