-- Verbatim tags, byte by byte.
use Rattle.std.proofs.Common.{◌≡◌, ℕ, suc, ◌+◌, ◌/◌, ◌%◌, ◌<◌, true, false, cond, List, [], ◌∷◌, ◌++◌, length, drop, get_or, refl, sym, ◌∙◌, ap, add-one, arith}
use Rattle.std.specs.Char.{encode_utf8}
use Rattle.std.specs.Str.{encode_utf8_all}
use Rattle.std.proofs.Math.Seq.{drop-cons}
use Rattle.std.proofs.lemmas.List.{append_assoc, append-nil}
use Rattle.std.proofs.lemmas.Str.{encodes-append}
use Rattle.yaml_definitions.specs.canonical.CharText.{hex_digit}
use Rattle.std.specs.Prelude.{codes, flat_map, Some, None}
use Rattle.yaml_show_scalar.specs.Tags.{is_tag_byte, tag_byte, suffix_behind, tag_prefix, shorthand_or, verbatim, other_text, tag_text}
use Rattle.yaml_show_scalar.proofs.EscapeLaws.{own, low_hex}

pub byte_itself : (b c : ℕ) → c ≡ b → is_tag_byte b ≡ true → encode_utf8 c ≡ encode_utf8_all (tag_byte b)
unfolding tag_byte
byte_itself b c e h = ap encode_utf8 e ∙ sym (append-nil (encode_utf8 b)) ∙ ap (λ z. encode_utf8_all (cond z (b ∷ []) (37 ∷ hex_digit (b / 16) ∷ hex_digit (b % 16) ∷ []))) (sym h)

pub byte_escaped : (b : ℕ) → is_tag_byte b ≡ false → b < 256 → 37 ∷ hex_digit (b / 16 % 16) ∷ hex_digit (b % 16) ∷ [] ≡ encode_utf8_all (tag_byte b)
unfolding tag_byte
byte_escaped b h l =
    let small : b / 16 % 16 ≡ b / 16 = omega (arith, l) in
    ap (λ z. 37 ∷ hex_digit z ∷ hex_digit (b % 16) ∷ []) small
    ∙ sym (own 37 _ (omega arith) (own _ _ (low_hex (b / 16) (omega (arith, l))) (own _ [] (low_hex (b % 16) (omega arith)) refl)))
    ∙ ap (λ z. encode_utf8_all (cond z (b ∷ []) (37 ∷ hex_digit (b / 16) ∷ hex_digit (b % 16) ∷ []))) (sym h)

dropped : (xs : List ℕ) (i b : ℕ) → (i < length xs) × (b ≡ get_or xs i 0) → drop i xs ≡ b ∷ drop (i + 1) xs
dropped xs i b h = rw add-one (drop-cons xs i 0 h.0 ∙ ap (λ z. z ∷ drop (suc i) xs) (sym h.1))

pub encoded_next : (tag : List ℕ) (at b : ℕ) (whole out new : List ℕ) → (at < length tag) × (b ≡ get_or tag at 0) → out ++ encode_utf8_all (flat_map tag_byte (drop at tag)) ≡ whole → new ≡ out ++ encode_utf8_all (tag_byte b)
    → new ++ encode_utf8_all (flat_map tag_byte (drop (at + 1) tag)) ≡ whole
encoded_next tag at b whole out new h e w =
    ap (λ z. z ++ encode_utf8_all (flat_map tag_byte (drop (at + 1) tag))) w ∙ append_assoc out (encode_utf8_all (tag_byte b)) (encode_utf8_all (flat_map tag_byte (drop (at + 1) tag)))
    ∙ ap (λ z. out ++ z) (sym (ap (λ z. encode_utf8_all (flat_map tag_byte z)) (dropped tag at b h) ∙ encodes-append (tag_byte b) (flat_map tag_byte (drop (at + 1) tag)))) ∙ e

-- what is written with this byte, and what is left then
pub encoded_within : (tag : List ℕ) (at b : ℕ) (whole out : List ℕ) → (at < length tag) × (b ≡ get_or tag at 0) → out ++ encode_utf8_all (flat_map tag_byte (drop at tag)) ≡ whole
    → whole ≡ (out ++ encode_utf8_all (tag_byte b)) ++ encode_utf8_all (flat_map tag_byte (drop (at + 1) tag))
encoded_within tag at b whole out h e = sym (encoded_next tag at b whole out (out ++ encode_utf8_all (tag_byte b)) h e refl)

-- ---- shorthands

pub primary : (g s : List ℕ) → suffix_behind tag_prefix g ≡ Some s → codes "!!" ++ s ≡ tag_text g
unfolding tag_text
primary g s h = ap (λ z. shorthand_or (codes "!!") z (other_text g)) (sym h)

pub not_primary : (g : List ℕ) → suffix_behind tag_prefix g ≡ None → other_text g ≡ tag_text g
unfolding tag_text
not_primary g h = ap (λ z. shorthand_or (codes "!!") z (other_text g)) (sym h)

pub local : (g s : List ℕ) → suffix_behind (codes "!") g ≡ Some s → codes "!" ++ s ≡ other_text g
unfolding other_text
local g s h = ap (λ z. shorthand_or (codes "!") z (verbatim g)) (sym h)

pub not_local : (g : List ℕ) → suffix_behind (codes "!") g ≡ None → verbatim g ≡ other_text g
unfolding other_text
not_local g h = ap (λ z. shorthand_or (codes "!") z (verbatim g)) (sym h)
