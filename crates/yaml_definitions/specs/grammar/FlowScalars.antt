-- Flow scalars (YAML 1.2.2, 7.3).
use Rattle.std.specs.Prelude.{ℕ, zero, suc, ◌+◌, ◌⊎◌, List, [], ◌∷◌, Bool, true, false, not, ◌&&◌, ◌==◌, replicate}
use Rattle.yaml_definitions.specs.grammar.Rules.{Span, Rule, ◌◆◌, ◌⊔◌, ◌▸◌, ◌◂◌, ◌⨾◌, ◌∪◌, gives, never, optional, any, counted, chr, at, letter, run, stretch, copied, Stands, Behind, where_both, limited, ahead, seen}
use Rattle.yaml_definitions.specs.grammar.Characters.{is_in, is_white, is_ns, is_indicator, is_flow_indicator, b-break, c-ns-esc-char, c-mapping-value, c-comment, c-single-quote, c-double-quote, c-escape}
use Rattle.yaml_definitions.specs.grammar.Separation.{Ctx, block_out, block_in, flow_out, flow_in, block_key, flow_key, s-indent, s-indent-less-than, Unmarked}

-- no production: so many breaks, as content
abbrev pub line_feeds : ℕ → List ℕ
line_feeds k = replicate k 10

-- no production: what a fold with so many empty lines stands for (6.5)
unfoldable pub fold_text : ℕ → List ℕ
fold_text zero = 32 ∷ []
fold_text (suc k) = line_feeds (suc k)

-- no production: the contexts inside a flow collection
unfoldable pub is_flow : Ctx → Bool
is_flow flow_in = true
is_flow flow_key = true
is_flow _ = false

-- [127] ns-plain-safe(c) (7.3.3): [128] ns-plain-safe-out, [129] ns-plain-safe-in
unfoldable pub plain_safe : Ctx → ℕ → Bool
plain_safe c x = is_ns x && not (is_flow c && is_flow_indicator x)

module _ (cs : List ℕ) where
  -- [70] l-empty(n,c) (6.4) in a flow scalar, where its prefix is [69] s-flow-line-prefix(n)
  unfoldable pub empty_line : ℕ → Span
  empty_line n = ((s-indent cs n ◆ run cs is_white) ⊔ s-indent-less-than cs n) ◆ b-break cs

  -- [74] s-flow-folded(n) (6.5), of [73] b-l-folded(n,c)
  unfoldable pub s-flow-folded : ℕ → Rule (List ℕ)
  s-flow-folded n = (run cs is_white ◆ b-break cs) ▸ seen fold_text (counted (empty_line n)) ◂ (s-indent cs n ◆ run cs is_white)

  -- [112] s-double-escaped(n) (7.3.1), after its whites, which are content
  unfoldable pub s-double-escaped : ℕ → Rule (List ℕ)
  s-double-escaped n = (chr cs c-escape ◆ b-break cs) ▸ seen line_feeds (counted (empty_line n)) ◂ (s-indent cs n ◆ run cs is_white)

  -- no production: where several lines are allowed, that is in no key
  abbrev pub several : Ctx → Rule (List ℕ) → Rule (List ℕ)
  several block_key R = never
  several flow_key R = never
  several block_out R = R
  several block_in R = R
  several flow_out R = R
  several flow_in R = R

  -- ---- quoted

  -- `loose` reads an unescaped white, `solid` another character of the text
  module _ (solid loose folded escaped : Rule (List ℕ)) where
    -- [111] nb-double-one-line (7.3.1), [122] nb-single-one-line (7.3.2)
    abbrev pub quoted_line : Rule (List ℕ)
    quoted_line = any (solid ∪ loose)

    -- no production: a line and its break; no unescaped white stands just before a fold. [113] s-double-break(n) is such a break
    abbrev pub broken_line : Rule (List ℕ)
    broken_line = (any (any loose ⨾ solid) ⨾ folded) ∪ (quoted_line ⨾ escaped)

    -- [116] nb-double-multi-line(n) (7.3.1), [125] nb-single-multi-line(n) (7.3.2): a later line begins with no unescaped
    -- white, and only the last may be empty
    abbrev pub quoted_lines : Rule (List ℕ)
    quoted_lines = quoted_line ∪ (broken_line ⨾ any (solid ⨾ broken_line) ⨾ optional (solid ⨾ quoted_line))

  -- [33] s-white (5.5), as content
  abbrev pub white_text : Rule (List ℕ)
  white_text = seen (λ c. c ∷ []) (letter cs is_white)

  -- [108] ns-double-char (7.3.1)
  unfoldable pub ns-double-char : Rule (List ℕ)
  ns-double-char = seen (λ c. c ∷ []) (letter cs (λ c. is_ns c && not (c == c-double-quote) && not (c == c-escape)) ∪ c-ns-esc-char cs)

  -- [109] c-double-quoted(n,c) (7.3.1), of [110] nb-double-text(n,c)
  unfoldable pub c-double-quoted : ℕ → Ctx → Rule (List ℕ)
  c-double-quoted n c = where_both (Unmarked cs) (chr cs c-double-quote
      ▸ quoted_lines ns-double-char white_text (several c (s-flow-folded n)) (several c (s-double-escaped n))
      ◂ chr cs c-double-quote)

  -- [119] ns-single-char (7.3.2), with [117] c-quoted-quote
  unfoldable pub ns-single-char : Rule (List ℕ)
  ns-single-char = seen (λ c. c ∷ []) (letter cs (λ c. is_ns c && not (c == c-single-quote)) ∪ ((chr cs c-single-quote ◆ chr cs c-single-quote) ▸ gives c-single-quote))

  -- [120] c-single-quoted(n,c) (7.3.2), of [121] nb-single-text(n,c)
  unfoldable pub c-single-quoted : ℕ → Ctx → Rule (List ℕ)
  c-single-quoted n c = where_both (Unmarked cs) (chr cs c-single-quote
      ▸ quoted_lines ns-single-char white_text (several c (s-flow-folded n)) never
      ◂ (chr cs c-single-quote ◆ ahead (λ i. Stands cs (λ x. x == c-single-quote) i → ⊥)))

  -- ---- plain (7.3.3)

  -- [126] ns-plain-first(c) (7.3.3)
  unfoldable pub PlainFirst : Ctx → ℕ → Type 0
  PlainFirst c i =
      Stands cs (λ x. is_ns x && not (is_indicator x)) i
      ⊎ (Stands cs (λ x. is_in x "?:-") i × Stands cs (plain_safe c) (i + 1))

  -- [130] ns-plain-char(c) (7.3.3)
  unfoldable pub PlainChar : Ctx → ℕ → Type 0
  PlainChar c i =
      Stands cs (λ x. plain_safe c x && not (x == c-mapping-value) && not (x == c-comment)) i
      ⊎ (Stands cs (λ x. x == c-comment) i × Behind cs is_ns i)
      ⊎ (Stands cs (λ x. x == c-mapping-value) i × Stands cs (plain_safe c) (i + 1))

  -- [133] ns-plain-one-line(c) (7.3.3), and a line of [134] s-ns-plain-next-line(n,c), with [132] nb-ns-plain-in-line(c): its
  -- first character is by P, and its last is no white
  unfoldable pub plain_line : (ℕ → Type 0) → Ctx → Rule (List ℕ)
  plain_line P c = copied cs (limited (λ i j. Behind cs is_white j → ⊥) (at cs P ◆ stretch cs (λ k. PlainChar c k ⊎ Stands cs is_white k)))

  -- [131] ns-plain(n,c) (7.3.3), of [135] ns-plain-multi-line(n,c)
  unfoldable pub ns-plain : ℕ → Ctx → Rule (List ℕ)
  ns-plain n c = where_both (Unmarked cs) (plain_line (PlainFirst c) c ⨾ any (several c (s-flow-folded n) ⨾ plain_line (PlainChar c) c))
