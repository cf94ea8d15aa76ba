-- Letters, digits and `-` are characters of a tag.
use Rattle.std.proofs.Common.{◌≡◌, ℕ, true, false, refl, arith}
use Rattle.std.specs.Prelude.{◌==◌}
use Rattle.std.proofs.lemmas.Bool.Decides.{nat_tests}
use Rattle.yaml_definitions.specs.grammar.Characters.{is_word, is_uri, is_tag, is_flow_indicator}

no_flow : (c : ℕ) → is_word c ≡ true → is_flow_indicator c ≡ false
unfolding is_word is_flow_indicator
no_flow c h = grind (arith, nat_tests, h)

no_mark : (c : ℕ) → is_word c ≡ true → (c == 33) ≡ false
unfolding is_word
no_mark c h = grind (arith, nat_tests, h)

pub word_tag : (c : ℕ) → is_word c ≡ true → is_tag c ≡ true
unfolding is_tag is_uri
word_tag c h = rw (h, no_mark c h, no_flow c h) refl
