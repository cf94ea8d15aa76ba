-- Characters (YAML 1.2.2, chapter 5). A text's characters are printable by `Text`, so no class below asks it again.
use Rattle.std.specs.Prelude.{ℕ, List, Bool, not, ◌&&◌, ◌||◌, ◌==◌, codes, Option, Some, None, if◌then◌else◌}
use Rattle.std.specs.List.{list_any}
use Rattle.std.specs.Int.{is_in_range}
use Rattle.std.specs.Char.{IsScalar, is_ascii_alphanumeric, is_ascii_hexdigit}
use Rattle.std.specs.Str.Parse.{digits_value}
use Rattle.yaml_definitions.specs.grammar.Rules.{Span, Rule, ◌◆◌, ◌⊔◌, ◌▸◌, ◌∪◌, seen, mapped, where_value, ahead, Stands, Behind, chr, letter, exactly, copied}

-- no production: one of the string's characters
abbrev pub is_in : ℕ → Prim.Native.String.String → Bool
is_in c s = list_any (λ d. d == c) (codes s)

-- [1] c-printable (5.1); U+FEFF is printable here
unfoldable pub is_printable : ℕ → Bool
is_printable c =
    c == 9 || c == 10 || c == 13 || is_in_range 32 126 c || c == 133 || is_in_range 160 55295 c
    || is_in_range 57344 65533 c || is_in_range 65536 1114111 c

-- ---- indicators (5.3) and the escape (5.7), by their code points

-- [4] c-sequence-entry: `-`
abbrev pub c-sequence-entry : ℕ
c-sequence-entry = 45

-- [5] c-mapping-key: `?`
abbrev pub c-mapping-key : ℕ
c-mapping-key = 63

-- [6] c-mapping-value: `:`
abbrev pub c-mapping-value : ℕ
c-mapping-value = 58

-- [7] c-collect-entry: `,`
abbrev pub c-collect-entry : ℕ
c-collect-entry = 44

-- [8] c-sequence-start: `[`
abbrev pub c-sequence-start : ℕ
c-sequence-start = 91

-- [9] c-sequence-end: `]`
abbrev pub c-sequence-end : ℕ
c-sequence-end = 93

-- [10] c-mapping-start: `{`
abbrev pub c-mapping-start : ℕ
c-mapping-start = 123

-- [11] c-mapping-end: `}`
abbrev pub c-mapping-end : ℕ
c-mapping-end = 125

-- [12] c-comment: `#`
abbrev pub c-comment : ℕ
c-comment = 35

-- [13] c-anchor: `&`
abbrev pub c-anchor : ℕ
c-anchor = 38

-- [14] c-alias: `*`
abbrev pub c-alias : ℕ
c-alias = 42

-- [15] c-tag: `!`
abbrev pub c-tag : ℕ
c-tag = 33

-- [16] c-literal: `|`
abbrev pub c-literal : ℕ
c-literal = 124

-- [17] c-folded: `>`
abbrev pub c-folded : ℕ
c-folded = 62

-- [18] c-single-quote: `'`
abbrev pub c-single-quote : ℕ
c-single-quote = 39

-- [19] c-double-quote: `"`
abbrev pub c-double-quote : ℕ
c-double-quote = 34

-- [20] c-directive: `%`
abbrev pub c-directive : ℕ
c-directive = 37

-- [41] c-escape: `\`
abbrev pub c-escape : ℕ
c-escape = 92

-- [22] c-indicator (5.3), with those of [21] c-reserved
unfoldable pub is_indicator : ℕ → Bool
is_indicator c = is_in c "-?:,[]{}#&*!|>'\"%@`"

-- [23] c-flow-indicator (5.3)
unfoldable pub is_flow_indicator : ℕ → Bool
is_flow_indicator c = is_in c ",[]{}"

-- ---- line breaks and white space (5.4, 5.5)

-- [24] b-line-feed
abbrev pub b-line-feed : ℕ
b-line-feed = 10

-- [25] b-carriage-return
abbrev pub b-carriage-return : ℕ
b-carriage-return = 13

-- [31] s-space
abbrev pub s-space : ℕ
s-space = 32

-- [32] s-tab
abbrev pub s-tab : ℕ
s-tab = 9

-- [26] b-char (5.4): [24] b-line-feed, [25] b-carriage-return
unfoldable pub is_break : ℕ → Bool
is_break c = c == 10 || c == 13

-- [27] nb-char (5.4)
unfoldable pub is_nb : ℕ → Bool
is_nb c = not (is_break c)

-- [31] s-space (5.5)
unfoldable pub is_space : ℕ → Bool
is_space c = c == 32

-- [33] s-white (5.5): [31] s-space, [32] s-tab
unfoldable pub is_white : ℕ → Bool
is_white c = c == 32 || c == 9

-- [34] ns-char (5.5)
unfoldable pub is_ns : ℕ → Bool
is_ns c = is_nb c && not (is_white c)

-- [38] ns-word-char (5.6)
unfoldable pub is_word : ℕ → Bool
is_word c = is_ascii_alphanumeric c || c == 45

-- [39] ns-uri-char (5.6); `%` and its digits are in `uri_char`
unfoldable pub is_uri : ℕ → Bool
is_uri c = is_word c || is_in c "#;/?:@&=+$,_.!~*'()[]"

-- [40] ns-tag-char (5.6); `%` and its digits are in `tag_char`
unfoldable pub is_tag : ℕ → Bool
is_tag c = is_uri c && not (c == c-tag) && not (is_flow_indicator c)

-- [42] ns-esc-null to [58] ns-esc-paragraph-separator (5.7): what a backslash and the character c give
unfoldable pub short_escape : ℕ → Option ℕ
short_escape c =
    if c == 48 then Some 0 else if c == 97 then Some 7 else if c == 98 then Some 8 else if c == 116 then Some 9
    else if c == 9 then Some 9 else if c == 110 then Some 10 else if c == 118 then Some 11 else if c == 102 then Some 12
    else if c == 114 then Some 13 else if c == 101 then Some 27 else if c == 32 then Some 32 else if c == 34 then Some 34
    else if c == 47 then Some 47 else if c == 92 then Some 92 else if c == 78 then Some 133 else if c == 95 then Some 160
    else if c == 76 then Some 8232 else if c == 80 then Some 8233 else None

module _ (cs : List ℕ) where
  -- [28] b-break (5.4): CR LF, CR or LF; CR LF is always one
  unfoldable pub b-break : Span
  b-break =
      (chr cs 13 ◆ chr cs 10)
      ⊔ (chr cs 13 ◆ ahead (λ i. Stands cs (λ c. c == 10) i → ⊥))
      ⊔ (ahead (λ i. Behind cs (λ c. c == 13) i → ⊥) ◆ chr cs 10)

  -- [59] ns-esc-8-bit, [60] ns-esc-16-bit, [61] ns-esc-32-bit (5.7), after their letter: so many hexadecimal digits, with the
  -- character that they number; a surrogate or a number past x10FFFF is none
  unfoldable pub numbered : ℕ → Rule ℕ
  numbered count = where_value IsScalar (seen (digits_value 16) (copied cs (exactly cs count is_ascii_hexdigit)))

  -- [62] c-ns-esc-char (5.7)
  unfoldable pub c-ns-esc-char : Rule ℕ
  c-ns-esc-char = chr cs c-escape ▸ (
      mapped short_escape (letter cs is_nb)
      ∪ (chr cs 120 ▸ numbered 2) ∪ (chr cs 117 ▸ numbered 4) ∪ (chr cs 85 ▸ numbered 8))
