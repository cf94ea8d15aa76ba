-- Bytes that one of the three passes refuses are no text.
use Rattle.std.proofs.Common.{◌≡◌, ℕ, Bool, true, false, cond, List, [], ◌∷◌, ◌++◌, length, drop, refl, sym, ◌∙◌, subst, arith, append_assoc, ◌==◌}
use Rattle.std.proofs.Math.Seq.{take-length}
use Rattle.std.proofs.lemmas.Bool.{false≢true}
use Rattle.std.proofs.lemmas.Bool.Decides.{Decides-eqb}
use Rattle.std.proofs.lemmas.Slice.Eq.{starts_is}
use Rattle.std.proofs.lemmas.List.Elements.{All-tail, All-head}
use Rattle.std.proofs.lemmas.Str.{IsUtf8-append, IsUtf8-past_char, chars_past_char, chars_from_encodes}
use Rattle.std.specs.Char.{encode_utf8}
use Rattle.std.specs.List.{All, starts_with}
use Rattle.std.specs.Str.{encode_utf8_all, chars, IsUtf8}
use Rattle.yaml_definitions.specs.model.Text.{is_text, byte_order_mark, mark_len, Text}
use Rattle.yaml_text.specs.Refused.{IsFirstRefused, RefusesText}
use Rattle.yaml_text.specs.declared.fault.Fault.{Fault}
use Rattle.yaml_text.specs.declared.fault.Fault.TheVariants as fault

text_utf8 : (bytes cs : List ℕ) → Text bytes cs → IsUtf8 (drop (mark_len bytes) bytes)
text_utf8 bytes cs t = (cs, (t.scalars, sym t.decodes))

mark_utf8 : IsUtf8 byte_order_mark
unfolding encode_utf8
mark_utf8 = (65279 ∷ [], (refl, refl))

pub whole_utf8 : (bytes cs : List ℕ) → Text bytes cs → IsUtf8 bytes
whole_utf8 bytes cs t = by (starts_with ◌==◌ bytes byte_order_mark) refl
  where
    by : (b : Bool) → starts_with ◌==◌ bytes byte_order_mark ≡ b → IsUtf8 bytes
    by true e =
        let whole : bytes ≡ byte_order_mark ++ drop 3 bytes = (starts_is Decides-eqb bytes byte_order_mark (starts_with ◌==◌ bytes byte_order_mark) refl).0 e in
        let rest : IsUtf8 (drop 3 bytes) = subst (λ b. IsUtf8 (drop (cond b 3 0) bytes)) e (text_utf8 bytes cs t) in
        subst IsUtf8 (sym whole) (IsUtf8-append byte_order_mark (drop 3 bytes) mark_utf8 rest)
    by false e = subst (λ b. IsUtf8 (drop (cond b 3 0) bytes)) e (text_utf8 bytes cs t)

-- each character of a text may stand in it
reaches : (before : List ℕ) (text after : List ℕ) (c : ℕ) → IsUtf8 text → text ≡ encode_utf8_all before ++ (encode_utf8 c ++ after) → All (λ d. is_text d ≡ true) (chars text) → is_text c ≡ true
reaches [] text after c u e a =
    All-head (λ d. is_text d ≡ true) c (chars after) (subst (All (λ d. is_text d ≡ true)) (chars_past_char text after c u e) a)
reaches (b ∷ before) text after c u e a =
    let rest : List ℕ = encode_utf8_all before ++ (encode_utf8 c ++ after) in
    let cut : text ≡ encode_utf8 b ++ rest = e ∙ append_assoc (encode_utf8 b) (encode_utf8_all before) (encode_utf8 c ++ after) in
    reaches before rest after c (IsUtf8-past_char text rest b u cut) refl
    (All-tail (λ d. is_text d ≡ true) b (chars rest) (subst (All (λ d. is_text d ≡ true)) (chars_past_char text rest b u cut) a))

pub refused_is_no_text : (bytes cs : List ℕ) (e : Fault) → RefusesText bytes e → Text bytes cs → ⊥
refused_is_no_text bytes cs fault.TooLong r t = omega (arith, r, t.short)
refused_is_no_text bytes cs (fault.NotUtf8 at) r t =
    r.1.longest (length bytes) r.1.short (subst IsUtf8 (sym (take-length bytes)) (whole_utf8 bytes cs t))
refused_is_no_text bytes cs (fault.NotPrintable at) r t =
    let i = r.2.0 in
    let f : IsFirstRefused (drop (mark_len bytes) bytes) i = r.2.2 in
    let u = text_utf8 bytes cs t in
    let same : cs ≡ chars (drop (mark_len bytes) bytes) = chars_from_encodes cs (drop (mark_len bytes) bytes) u (sym t.decodes) in
    let p = reaches f.before (drop (mark_len bytes) bytes) f.after f.refused u f.split (subst (All (λ d. is_text d ≡ true)) same t.permitted) in
    false≢true (sym f.forbidden ∙ p)
refused_is_no_text bytes cs _ r t = absurd r
