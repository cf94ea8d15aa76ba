-- A text that is written character by character.
use Rattle.std.proofs.Common.{◌≡◌, ℕ, List, [], ◌++◌, sym, ◌∙◌, ap}
use Rattle.std.specs.List.{flat_map}
use Rattle.std.specs.Char.{encode_utf8}
use Rattle.std.specs.Str.{IsUtf8, chars, encode_utf8_all}
use Rattle.std.proofs.lemmas.List.{append_assoc, append-nil}
use Rattle.std.proofs.lemmas.Str.{chars_past_char, chars-nil, encodes-append}
use Rattle.review_text.specs.Hidden.{escaped_char, spelled, visible}
use Rattle.review_text.specs.declared.hidden.Kind.TheVariants.{Node}

module _ (f : ℕ → List ℕ) where
  -- of a text that begins with this character
  spelled_past : (bs rest : List ℕ) (c : ℕ) → IsUtf8 bs → bs ≡ encode_utf8 c ++ rest → spelled f bs ≡ encode_utf8_all (f c) ++ spelled f rest
  spelled_past bs rest c u e = ap (λ z. encode_utf8_all (flat_map f z)) (chars_past_char bs rest c u e) ∙ encodes-append (f c) (flat_map f (chars rest))

  pub spelled_next : (bs rest : List ℕ) (c : ℕ) (o a whole : List ℕ) → IsUtf8 bs → bs ≡ encode_utf8 c ++ rest → o ++ spelled f bs ≡ whole → a ≡ o ++ encode_utf8_all (f c) → a ++ spelled f rest ≡ whole
  spelled_next bs rest c o a whole u e h k =
      ap (λ z. z ++ spelled f rest) k ∙ append_assoc o (encode_utf8_all (f c)) (spelled f rest) ∙ ap (λ z. o ++ z) (sym (spelled_past bs rest c u e)) ∙ h

  pub spelled_all : (bs o whole : List ℕ) → bs ≡ [] → o ++ spelled f bs ≡ whole → o ≡ whole
  spelled_all bs o whole e h = sym (append-nil o) ∙ ap (λ z. o ++ encode_utf8_all (flat_map f z)) (sym (ap chars e ∙ chars-nil)) ∙ h

pub visible_none : visible [] ≡ []
visible_none = ap (λ z. encode_utf8_all (flat_map (escaped_char Node) z)) chars-nil

-- two escapes one after another
pub two_escapes : (o a b first second : List ℕ) → a ≡ o ++ encode_utf8_all first → b ≡ a ++ encode_utf8_all second → b ≡ o ++ encode_utf8_all (first ++ second)
two_escapes o a b first second e h = h ∙ ap (λ z. z ++ encode_utf8_all second) e ∙ append_assoc o (encode_utf8_all first) (encode_utf8_all second) ∙ ap (λ z. o ++ z) (sym (encodes-append first second))
