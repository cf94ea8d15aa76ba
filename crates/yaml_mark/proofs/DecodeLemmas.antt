-- Decoded tags.
use Rattle.std.proofs.Common.{◌≡◌, ◌≢◌, ℕ, suc, ◌+◌, ◌-◌, ◌*◌, ◌≤◌, ◌<◌, List, [], ◌∷◌, ◌++◌, length, Bool, true, false, not, Some, None, if◌then◌else◌, bytes_eq, refl, sym, ◌∙◌, ap, arith}
use Rattle.std.specs.Prelude.{◌&&◌, ◌==◌, nat_le, Result, Ok, Err, IfOk}
use Rattle.std.specs.Char.{is_digit, is_ascii_hexdigit, digit_value}
use Rattle.std.specs.Str.{IsUtf8, is_utf8}
use Rattle.std.proofs.lemmas.Str.{IsUtf8-from_is_utf8, is_utf8-from_IsUtf8}
use Rattle.std.proofs.lemmas.List.{length-append}
use Rattle.std.proofs.lemmas.Bool.Decides.{nat_tests}
use Rattle.yaml_definitions.specs.model.Event.{full}
use Rattle.yaml_definitions.specs.model.Limits.{tag_limit}
use Rattle.yaml_definitions.specs.model.Tag.{is_full}
use Rattle.yaml_definitions.specs.grammar.Tags.{percent_decode, decoded}
use Rattle.percent_encoding.specs.Percent as crate_spec
use Rattle.percent_encoding.proofs.PercentLemmas.{percent_decode_not_percent, percent_decode_escape}

-- both definitions of decoding are one
pub same_decode : (bs : List ℕ) → crate_spec.percent_decode bs ≡ percent_decode bs
unfolding crate_spec.percent_decode percent_decode
same_decode [] = refl
same_decode (b ∷ []) = refl
same_decode (b ∷ c ∷ []) = refl
same_decode (b ∷ c ∷ d ∷ bs) = both (b == 37 && is_digit c 16 && is_digit d 16) _ _ _ _ (ap (λ x. (16 * digit_value c + digit_value d) ∷ x) (same_decode bs)) (ap (λ x. b ∷ x) (same_decode (c ∷ d ∷ bs)))
  where
    both : (t : Bool) (x y z w : List ℕ) → x ≡ y → z ≡ w → (if t then x else z) ≡ (if t then y else w)
    both true x y z w e f = e
    both false x y z w e f = f

-- what text that begins with no escape, and with one, is decoded to
pub kept_first : (c : ℕ) (bs : List ℕ) → c ≢ 37 → percent_decode (c ∷ bs) ≡ c ∷ percent_decode bs
kept_first c bs n = sym (same_decode (c ∷ bs)) ∙ percent_decode_not_percent c bs n ∙ ap (λ x. c ∷ x) (same_decode bs)

hex_digit : (c : ℕ) → is_ascii_hexdigit c ≡ true → digit_value c < 16
hex_digit c h = grind (arith, nat_tests, h)

pub escape_first : (h l : ℕ) (bs : List ℕ) → is_ascii_hexdigit h ≡ true → is_ascii_hexdigit l ≡ true → percent_decode (37 ∷ h ∷ l ∷ bs) ≡ (16 * digit_value h + digit_value l) ∷ percent_decode bs
escape_first h l bs a b =
    sym (same_decode (37 ∷ h ∷ l ∷ bs)) ∙ percent_decode_escape 37 h l bs refl (hex_digit h a) (hex_digit l b) ∙ ap (λ x. (16 * digit_value h + digit_value l) ∷ x) (same_decode bs)

pub decoded_yes : (t : List ℕ) → is_full (percent_decode t) ≡ true → decoded t ≡ Some (full (percent_decode t))
unfolding decoded
decoded_yes t h = rw h refl

pub decoded_no : (t : List ℕ) → is_full (percent_decode t) ≡ false → decoded t ≡ None
unfolding decoded
decoded_no t h = rw h refl

pub no_utf8 : (bs : List ℕ) → (IsUtf8 bs → ⊥) → is_full bs ≡ false
unfolding is_full
no_utf8 bs n = pick (is_utf8 bs) (IsUtf8-from_is_utf8 bs)
  where
    pick : (t : Bool) → (t ≡ true → IsUtf8 bs) → (t && (nat_le 1 (length bs) && (nat_le (length bs) tag_limit && not (bytes_eq bs (33 ∷ []))))) ≡ false
    pick true f = absurd (n (f refl))
    pick false f = refl

-- what the code asks
pub full_is : (bs : List ℕ) (t : Bool) → IsUtf8 bs → 0 < length bs → length bs ≤ tag_limit → t ≡ not (bytes_eq bs (33 ∷ [])) → t ≡ is_full bs
unfolding is_full
full_is bs t u a b e = let h = is_utf8-from_IsUtf8 bs u in grind (arith, nat_tests, h, a, b, e)

pub empty_is_none : (bs : List ℕ) → length bs ≡ 0 → false ≡ is_full bs
unfolding is_full
empty_is_none bs e = grind (arith, nat_tests, e)

pub if_ok : {T E : Type 0} {P Q : T → Type 0} (r : Result T E) → ((x : T) → P x → Q x) → IfOk r P → IfOk r Q
if_ok {T} {E} {P} {Q} (Ok x) f p = f x p
if_ok {T} {E} {P} {Q} (Err e) f p = tt

-- bytes to which a prefix was appended, and then what a suffix is decoded to
pub both_appended : {a b f e d : List ℕ} (p s : List ℕ) → a ≡ b → b ≡ f ++ d → f ≡ e ++ p → e ≡ [] → d ≡ crate_spec.percent_decode s → a ≡ p ++ percent_decode s
both_appended {a} {b} {f} {e} {d} p s g h i j k =
    g ∙ h ∙ ap (λ z. z ++ d) (i ∙ ap (λ z. z ++ p) j) ∙ ap (λ z. p ++ z) (k ∙ same_decode s)

-- the tag of a text is told by what it is decoded to
pub same_decoded : (s t : List ℕ) → percent_decode s ≡ percent_decode t → decoded s ≡ decoded t
unfolding decoded
same_decoded s t e = ap (λ z. if is_full z then Some (full z) else None) e

-- a shorthand with nothing between its first character and its suffix
pub local_is : (b : ℕ) (all suffix handle : List ℕ) → b ≢ 37 → all ≡ b ∷ (handle ++ suffix) → length all - length suffix ≡ 1 → percent_decode all ≡ (b ∷ []) ++ percent_decode suffix
local_is b all suffix [] n e l = ap percent_decode e ∙ kept_first b suffix n
local_is b all suffix (c ∷ handle) n e l = let k = ap length e ∙ ap (λ z. suc (suc z)) (length-append handle suffix) in absurd (omega (arith, l, k))
