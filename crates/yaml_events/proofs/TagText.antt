-- Percent-encoding by the set of this crate is the spelling of tags.
use Rattle.std.proofs.Common.{◌≡◌, ◌<◌, ℕ, zero, suc, ◌==◌, Bool, true, false, ◌&&◌, List, [], ◌∷◌, ◌++◌, refl, sym, ap, ◌∙◌, subst, arith, append_assoc}
use Rattle.std.proofs.lemmas.List.{append-nil}
use Rattle.std.specs.Prelude.{bytes_eq}
use Rattle.std.proofs.lemmas.Bool.Decides.{nat_tests}
use lib.Pointwise.{bytes_decides}
use Rattle.percent_encoding.specs.Percent.{percent_encode, percent_encode_byte, encode_byte}
use Rattle.percent_encoding.specs.AsciiSet.{should_percent_encode}
use Rattle.yaml_definitions.specs.grammar.Characters.{is_uri, is_word}
use Rattle.yaml_definitions.specs.canonical.TagText.{spell_byte, encoded}
use Rattle.yaml_definitions.proofs.Members.{and_both}
use Rattle.yaml_definitions.proofs.TagLaws.{AreBytes}
use Rattle.yaml_events.specs.declared.tag.TheConstants.{ESCAPED}

-- a test of all numbers below one
all_below : (ℕ → Bool) → ℕ → Bool
all_below p zero = true
all_below p (suc n) = p n && all_below p n

below : (p : ℕ → Bool) (n i : ℕ) → all_below p n ≡ true → i < n → p i ≡ true
unfolding all_below
below p zero i h l = absurd (omega arith)
below p (suc n) i h l =
    let q = and_both (p n) (all_below p n) h in
    elim (i == n) as (λ v. (i == n) ≡ v → p i ≡ true) [
      | true ↦ λ e. let f : n ≡ i = grind (arith, nat_tests) in subst (λ z. p z ≡ true) f q.0
      | false ↦ λ e. let k : i < n = grind (arith, nat_tests) in below p n i q.1 k
    ] refl

abbrev is_alike : ℕ → Bool
is_alike b = bytes_eq (encode_byte ESCAPED b) (spell_byte b)

bytes_alike : all_below is_alike 256 ≡ true
unfolding all_below spell_byte is_uri is_word percent_encode_byte should_percent_encode
bytes_alike = refl

byte_alike : (b : ℕ) → b < 256 → encode_byte ESCAPED b ≡ spell_byte b
byte_alike b h = (bytes_decides (encode_byte ESCAPED b) (spell_byte b)).0 (below is_alike 256 b bytes_alike h)

pub encoded_is : (g more : List ℕ) → AreBytes g → percent_encode ESCAPED g ++ more ≡ encoded g more
unfolding percent_encode
encoded_is [] more m = refl
encoded_is (b ∷ g) more m =
    append_assoc (encode_byte ESCAPED b) (percent_encode ESCAPED g) more ∙ ap (λ x. x ++ (percent_encode ESCAPED g ++ more)) (byte_alike b m.0) ∙ ap (λ x. spell_byte b ++ x) (encoded_is g more m.1)

-- what follows stands after the spelling
pub encoded_then : (g more : List ℕ) → encoded g [] ++ more ≡ encoded g more
encoded_then [] more = refl
encoded_then (b ∷ g) more = append_assoc (spell_byte b) (encoded g []) more ∙ ap (λ x. spell_byte b ++ x) (encoded_then g more)

pub encoded_whole : (g : List ℕ) → AreBytes g → percent_encode ESCAPED g ≡ encoded g []
encoded_whole g m = sym (append-nil (percent_encode ESCAPED g)) ∙ encoded_is g [] m
