-- A text that is written with `?` for what a terminal would not print, and what stands below it, character by character.
use Rattle.std.proofs.Common.{◌≡◌, ℕ, List, [], ◌++◌, map, sym, ◌∙◌, ap}
use Rattle.std.specs.Char.{encode_utf8}
use Rattle.std.specs.Str.{IsUtf8, chars, encode_utf8_all}
use Rattle.std.proofs.lemmas.List.{append_assoc, append-nil}
use Rattle.std.proofs.lemmas.Str.{chars_past_char, chars-nil}
use Rattle.std.specs.List.{flat_map}
use Rattle.review_text.specs.Terminal.{terminal_char, terminal}
use Rattle.review_text.specs.Window.{below, margin}

-- of a text that begins with this character
terminal_past : (bs rest : List ℕ) (c : ℕ) → IsUtf8 bs → bs ≡ encode_utf8 c ++ rest → terminal bs ≡ encode_utf8 (terminal_char c) ++ terminal rest
terminal_past bs rest c u e = ap (λ z. encode_utf8_all (map terminal_char z)) (chars_past_char bs rest c u e)

pub terminal_next : (bs rest : List ℕ) (c : ℕ) (o a whole : List ℕ) → IsUtf8 bs → bs ≡ encode_utf8 c ++ rest → o ++ terminal bs ≡ whole → a ≡ o ++ encode_utf8 (terminal_char c) → a ++ terminal rest ≡ whole
terminal_next bs rest c o a whole u e h k =
    ap (λ z. z ++ terminal rest) k ∙ append_assoc o (encode_utf8 (terminal_char c)) (terminal rest) ∙ ap (λ z. o ++ z) (sym (terminal_past bs rest c u e)) ∙ h

pub terminal_all : (bs o whole : List ℕ) → bs ≡ [] → o ++ terminal bs ≡ whole → o ≡ whole
terminal_all bs o whole e h = sym (append-nil o) ∙ ap (λ z. o ++ encode_utf8_all (map terminal_char z)) (sym (ap chars e ∙ chars-nil)) ∙ h

-- ---- what stands below it

margin_past : (bs rest : List ℕ) (c : ℕ) → IsUtf8 bs → bs ≡ encode_utf8 c ++ rest → margin bs ≡ below (terminal_char c) ++ margin rest
margin_past bs rest c u e = ap (λ z. flat_map (λ d. below (terminal_char d)) z) (chars_past_char bs rest c u e)

pub margin_next : (bs rest : List ℕ) (c : ℕ) (o a whole : List ℕ) → IsUtf8 bs → bs ≡ encode_utf8 c ++ rest → o ++ margin bs ≡ whole → a ≡ o ++ below (terminal_char c) → a ++ margin rest ≡ whole
margin_next bs rest c o a whole u e h k =
    ap (λ z. z ++ margin rest) k ∙ append_assoc o (below (terminal_char c)) (margin rest) ∙ ap (λ z. o ++ z) (sym (margin_past bs rest c u e)) ∙ h

pub margin_all : (bs o whole : List ℕ) → bs ≡ [] → o ++ margin bs ≡ whole → o ≡ whole
margin_all bs o whole e h = sym (append-nil o) ∙ ap (λ z. o ++ flat_map (λ d. below (terminal_char d)) z) (sym (ap chars e ∙ chars-nil)) ∙ h
