-- Which strings are shown plain (YAML 1.2.2, 7.3.3): those that readers of YAML 1.1 and of 1.2 take for the same string.
use Rattle.std.specs.Prelude.{ℕ, Bool, not, ◌||◌, ◌&&◌, ◌==◌, cond, nat_le, List, [], ◌∷◌, slice_index, codes}
use Rattle.std.specs.List.{list_all, list_any, after_first}
use Rattle.std.specs.Str.{chars, str_eq_ignore_ascii_case}
use Rattle.yaml_definitions.specs.model.Core.{one_of}
use Rattle.yaml_show_scalar.specs.Numbers.{is_digit}
use Rattle.yaml_show_scalar.specs.Texts.{ends_in, has_pair}
use Rattle.yaml_show_scalar.specs.Escapes.{is_unseen}

-- a letter of ASCII
unfoldable pub is_letter : ℕ → Bool
is_letter b = (nat_le 65 b && nat_le b 90) || (nat_le 97 b && nat_le b 122)

-- a byte of a number of base 10 or 60, or of a time: a digit, `_`, `.`, `,`, `:`, `+`, `-`, `e`, `E`, `t`, `T`, `Z` or a space
unfoldable pub is_numeric : ℕ → Bool
is_numeric b =
    is_digit b || ((b == 95) || ((b == 46) || ((b == 44) || ((b == 58) || ((b == 43) || ((b == 45)
    || ((b == 101) || ((b == 69) || ((b == 116) || ((b == 84) || ((b == 90) || (b == 32))))))))))))

-- a byte of a number of base 2, 8 or 16: a hexadecimal digit, `_`, `,`, `+`, `-`, `x`, `X`, `o` or `O`
unfoldable pub is_based : ℕ → Bool
is_based b =
    is_digit b || ((nat_le 65 b && nat_le b 70) || ((nat_le 97 b && nat_le b 102)
    || ((b == 95) || ((b == 44) || ((b == 43) || ((b == 45) || ((b == 120) || ((b == 88) || ((b == 111) || (b == 79))))))))))

abbrev pub is_point : ℕ → Bool
is_point b = b == 46

-- two of its bytes are `.`
abbrev pub has_points : List ℕ → Bool
has_points text = list_any is_point (after_first is_point text)

-- Some reader of YAML 1.1 or 1.2 may take the text, which begins with a digit, for a number or a time: each byte is one of those, with at most one `.`; or it begins with `0`, and each byte is one of a number of base 2, 8 or 16.
unfoldable pub may_be_number : List ℕ → Bool
may_be_number text = (list_all is_numeric text && not (has_points text)) || ((slice_index text 0 == 48) && list_all is_based text)

-- The first byte is a letter, `_`, `/`, `$` or one of a character beyond ASCII; or a digit, in a text that is no number; or `.`, and then a letter, `/` or `.`; or one or two `-`, and then a letter.
unfoldable pub begins_plainly : List ℕ → Bool
begins_plainly text =
    let first = slice_index text 0 in
    let second = slice_index text 1 in
    cond (first == 46) (is_letter second || ((second == 47) || (second == 46)))
    (cond (first == 45) (is_letter second || ((second == 45) && is_letter (slice_index text 2)))
    (cond (is_digit first) (not (may_be_number text))
    (is_letter first || ((first == 95) || ((first == 47) || ((first == 36) || nat_le 128 first))))))

-- null and booleans of YAML 1.2
abbrev pub is_core_word : List ℕ → Bool
is_core_word = one_of (codes "null" ∷ codes "Null" ∷ codes "NULL" ∷ codes "true" ∷ codes "True" ∷ codes "TRUE" ∷ codes "false" ∷ codes "False" ∷ codes "FALSE" ∷ [])

-- further booleans of YAML 1.1
abbrev pub is_old_word : List ℕ → Bool
is_old_word =
    one_of (codes "yes" ∷ codes "Yes" ∷ codes "YES" ∷ codes "no" ∷ codes "No" ∷ codes "NO" ∷ codes "on" ∷ codes "On" ∷ codes "ON" ∷ codes "off" ∷ codes "Off" ∷ codes "OFF" ∷ codes "y" ∷ codes "Y" ∷ codes "n" ∷ codes "N" ∷ [])

-- a float in words, in any case, or nothing but dots, which the pattern of YAML 1.1 takes for a float
unfoldable pub is_dotted : List ℕ → Bool
is_dotted text = str_eq_ignore_ascii_case text (codes ".inf") || (str_eq_ignore_ascii_case text (codes ".nan") || list_all (λ b. b == 46) text)

-- no character is unseen, a colon stands before no space and not at the end, a space stands before no `#` and not at the end
unfoldable pub is_plain_inside : List ℕ → Bool
is_plain_inside text = not (has_pair 58 32 text) && (not (has_pair 32 35 text) && (not (ends_in 32 text) && (not (ends_in 58 text) && list_all (λ c. not (is_unseen c)) (chars text))))

-- a string without quotes
unfoldable pub is_plain : List ℕ → Bool
is_plain text = begins_plainly text && (not (is_core_word text) && (not (is_old_word text) && (not (is_dotted text) && is_plain_inside text)))
