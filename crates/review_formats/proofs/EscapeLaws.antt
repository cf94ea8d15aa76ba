-- A text that is escaped character by character.
use Rattle.std.proofs.Common.{◌≡◌, ◌<◌, ◌≤◌, ℕ, ◌/◌, ◌%◌, ◌||◌, Bool, true, false, nat_lt, List, [], ◌∷◌, ◌++◌, get_or, refl, sym, ◌∙◌, ap, subst, arith}
use Rattle.std.specs.List.{flat_map}
use Rattle.std.specs.Char.{encode_utf8}
use Rattle.std.specs.Str.{IsUtf8, chars, encode_utf8_all, NoCharPasses}
use Rattle.std.proofs.lemmas.List.{append_assoc, append-nil}
use Rattle.std.proofs.lemmas.Bool.{cond_both}
use Rattle.std.proofs.lemmas.Bool.Decides.{nat_tests}
use Rattle.std.proofs.lemmas.Str.{chars_past_char, chars-nil, encodes-append, NoCharPasses-append, NoCharPasses-byte}
use Rattle.yaml_definitions.specs.canonical.CharText.{hex_digit}
use Rattle.review_formats.specs.declared.escape.Escape.{Escape}
use Rattle.review_formats.specs.declared.escape.Escape.TheVariants.{Html, Markdown, Message, Property}
use Rattle.review_formats.specs.Escaped.{is_plain, is_markup, is_of_escape, reference, percent, escape_of, escaped_char, escaped, HasNoMarkup}

-- ---- what is written

escaped_past : (e : Escape) (bs rest : List ℕ) (c : ℕ) → IsUtf8 bs → bs ≡ encode_utf8 c ++ rest → escaped e bs ≡ encode_utf8_all (escaped_char e c) ++ escaped e rest
escaped_past e bs rest c u h = ap (λ z. encode_utf8_all (flat_map (escaped_char e) z)) (chars_past_char bs rest c u h) ∙ encodes-append (escaped_char e c) (flat_map (escaped_char e) (chars rest))

pub escaped_next : (e : Escape) (bs rest : List ℕ) (c : ℕ) (o a whole : List ℕ) → IsUtf8 bs → bs ≡ encode_utf8 c ++ rest → o ++ escaped e bs ≡ whole → a ≡ o ++ encode_utf8_all (escaped_char e c) → a ++ escaped e rest ≡ whole
escaped_next e bs rest c o a whole u s h k =
    ap (λ z. z ++ escaped e rest) k ∙ append_assoc o (encode_utf8_all (escaped_char e c)) (escaped e rest) ∙ ap (λ z. o ++ z) (sym (escaped_past e bs rest c u s)) ∙ h

pub escaped_all : (e : Escape) (bs o whole : List ℕ) → bs ≡ [] → o ++ escaped e bs ≡ whole → o ≡ whole
escaped_all e bs o whole n h = sym (append-nil o) ∙ ap (λ z. o ++ encode_utf8_all (flat_map (escaped_char e) z)) (sym (ap chars n ∙ chars-nil)) ∙ h

-- ---- what is not

-- only characters of ASCII are escaped
pub escaped_low : (e : Escape) (c : ℕ) → (is_markup e c || is_of_escape e c) ≡ true → c < 128
unfolding is_markup
escaped_low Html c h = grind (arith, nat_tests, h)
escaped_low Markdown c h = grind (arith, nat_tests, h)
escaped_low Message c h = grind (arith, nat_tests, h)
escaped_low Property c h = grind (arith, nat_tests, h)

pub markup_low : (e : Escape) (c : ℕ) → is_markup e c ≡ true → c < 128
markup_low e c h = escaped_low e c (ap (λ z. z || is_of_escape e c) h)

either_not : (a b : Bool) → (a || b) ≡ false → a ≡ false
either_not true b h = h
either_not false b h = refl

digit_plain : (d : ℕ) → d < 16 → is_plain (hex_digit d) ≡ true
digit_plain d h = grind (arith, nat_tests)

plain_free : (e : Escape) (c : ℕ) → is_plain c ≡ true → is_markup e c ≡ false
unfolding is_markup
plain_free Html c h = grind (arith, nat_tests, h)
plain_free Markdown c h = grind (arith, nat_tests, h)
plain_free Message c h = grind (arith, nat_tests, h)
plain_free Property c h = grind (arith, nat_tests, h)

-- of what an escape has
module _ (e : Escape) (c : ℕ) (low : c < 128) where
  first : is_markup e (hex_digit (c / 16)) ≡ false
  first = plain_free e (hex_digit (c / 16)) (digit_plain (c / 16) (omega (arith, low)))

  second : is_markup e (hex_digit (c % 16)) ≡ false
  second = plain_free e (hex_digit (c % 16)) (digit_plain (c % 16) (omega arith))

escape_free : (e : Escape) (c : ℕ) → c < 128 → NoCharPasses (is_markup e) (encode_utf8_all (escape_of e c))
unfolding is_markup
escape_free Html c l = (reference c, refl, (refl, (refl, (refl, (first Html c l, (second Html c l, (refl, tt)))))))
escape_free Markdown c l = (reference c, refl, (refl, (refl, (refl, (first Markdown c l, (second Markdown c l, (refl, tt)))))))
escape_free Message c l = (percent c, refl, (refl, (first Message c l, (second Message c l, tt))))
escape_free Property c l = (percent c, refl, (refl, (first Property c l, (second Property c l, tt))))

char_free : (e : Escape) (c : ℕ) → NoCharPasses (is_markup e) (encode_utf8_all (escaped_char e c))
char_free e c =
    cond_both (is_markup e c || is_of_escape e c) (escape_of e c) (c ∷ []) (λ cs. NoCharPasses (is_markup e) (encode_utf8_all cs))
    (λ t. escape_free e c (escaped_low e c t))
    (λ f. (c ∷ [], refl, (either_not (is_markup e c) (is_of_escape e c) f, tt)))

chars_free : (e : Escape) (cs : List ℕ) → NoCharPasses (is_markup e) (encode_utf8_all (flat_map (escaped_char e) cs))
chars_free e [] = ([], refl, tt)
chars_free e (c ∷ cs) =
    subst (NoCharPasses (is_markup e)) (sym (encodes-append (escaped_char e c) (flat_map (escaped_char e) cs)))
    (NoCharPasses-append (is_markup e) (encode_utf8_all (escaped_char e c)) (encode_utf8_all (flat_map (escaped_char e) cs)) (char_free e c) (chars_free e cs))

-- no byte past ASCII is markup
high_free : (e : Escape) (b : ℕ) → 128 ≤ b → is_markup e b ≡ false
unfolding is_markup
high_free Html b h = grind (arith, nat_tests, h)
high_free Markdown b h = grind (arith, nat_tests, h)
high_free Message b h = grind (arith, nat_tests, h)
high_free Property b h = grind (arith, nat_tests, h)

pub clean : (e : Escape) (text : List ℕ) → HasNoMarkup e (escaped e text)
clean e text i l = by (nat_lt (get_or (escaped e text) i 0) 128) refl
  where
    by : (t : Bool) → nat_lt (get_or (escaped e text) i 0) 128 ≡ t → is_markup e (get_or (escaped e text) i 0) ≡ false
    by true h = NoCharPasses-byte (is_markup e) (escaped e text) i (chars_free e (chars text)) l (grind (arith, nat_tests, h))
    by false h = high_free e (get_or (escaped e text) i 0) (grind (arith, nat_tests, h))
