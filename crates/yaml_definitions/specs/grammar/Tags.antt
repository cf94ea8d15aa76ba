-- Tags, anchors and node properties (YAML 1.2.2, 6.8.2 and 6.9).
use Rattle.std.specs.Prelude.{ℕ, ◌+◌, ◌*◌, List, [], ◌∷◌, ◌++◌, Bool, not, ◌&&◌, ◌==◌, if◌then◌else◌, Some, None, Option, codes, encode_utf8_all, bytes_eq, option_and_then}
use Rattle.std.specs.Char.{is_digit, digit_value, is_ascii_hexdigit}
use Rattle.std.specs.Map.{lookup}
use Rattle.yaml_definitions.specs.grammar.Rules.{Span, Rule, ◌◆◌, ◌⊔◌, ◌▸◌, ◌◂◌, ◌∪◌, gives, any_span, any_one_span, chr, word, one, some_run, whole_run, copied, Stands, ahead, with_value, seen, mapped}
use Rattle.yaml_definitions.specs.grammar.Characters.{is_ns, is_flow_indicator, is_word, is_uri, is_tag, c-anchor, c-alias, c-tag}
use Rattle.yaml_definitions.specs.grammar.Separation.{Ctx, s-separate}
use Rattle.yaml_definitions.specs.model.Event.{WrittenTag, untagged, non_specific, full}
use Rattle.yaml_definitions.specs.grammar.Events.{Props}
use Rattle.yaml_definitions.specs.model.Tag.{is_full}

-- ---- tags' texts

-- no production: `%`, which comes before the two hexadecimal digits of a byte (5.6)
abbrev pub percent : ℕ
percent = 37

-- no production: `%` and two hexadecimal digits stand for a byte (5.6)
unfoldable pub percent_decode : List ℕ → List ℕ
percent_decode [] = []
percent_decode (b ∷ []) = b ∷ []
percent_decode (b ∷ c ∷ []) = b ∷ c ∷ []
percent_decode (b ∷ high ∷ low ∷ rest) =
    if b == 37 && is_digit high 16 && is_digit low 16
    then (16 * digit_value high + digit_value low) ∷ percent_decode rest
    else b ∷ percent_decode (high ∷ low ∷ rest)

-- no production: the tag of a text, decoded once
unfoldable pub decoded : List ℕ → Option WrittenTag
decoded text = if is_full (percent_decode text) then Some (full (percent_decode text)) else None

-- ---- handles: each with its prefix

-- no production: handles, each with its prefix
abbrev pub Handles : Type 0
Handles = List (List ℕ × List ℕ)

-- no production: the prefixes of the primary and the secondary handle where no directive gives another (6.8.2.1)
unfoldable pub default_handles : Handles
default_handles = (codes "!", codes "!") ∷ (codes "!!", codes "tag:yaml.org,2002:") ∷ []

-- no production: a handle's prefix, by a directive or by default
unfoldable pub prefix_of : Handles → List ℕ → Option (List ℕ)
prefix_of handles handle = lookup (bytes_eq handle) (handles ++ default_handles)

-- no production: the tag of a handle and a suffix, joined
unfoldable pub joined : Handles → List ℕ → List ℕ → Option WrittenTag
joined handles handle suffix = option_and_then (λ prefix. decoded (prefix ++ suffix)) (prefix_of handles handle)

-- [102] ns-anchor-char (6.9.2): an ns-char other than a flow indicator
unfoldable pub is_name : ℕ → Bool
is_name c = is_ns c && not (is_flow_indicator c)

module _ (cs : List ℕ) where
  -- [39] ns-uri-char (5.6)
  unfoldable pub uri_char : Span
  uri_char = one cs is_uri ⊔ (chr cs 37 ◆ one cs is_ascii_hexdigit ◆ one cs is_ascii_hexdigit)

  -- [40] ns-tag-char (5.6)
  unfoldable pub tag_char : Span
  tag_char = one cs is_tag ⊔ (chr cs 37 ◆ one cs is_ascii_hexdigit ◆ one cs is_ascii_hexdigit)

  -- [89] c-tag-handle (6.8.2.1): [92] c-named-tag-handle, [91] c-secondary-tag-handle, [90] c-primary-tag-handle
  unfoldable pub c-tag-handle : Rule (List ℕ)
  c-tag-handle = copied cs ((chr cs c-tag ◆ some_run cs is_word ◆ chr cs c-tag) ⊔ (chr cs c-tag ◆ chr cs c-tag) ⊔ chr cs c-tag)

  -- [93] ns-tag-prefix (6.8.2.2): [94] c-ns-local-tag-prefix, [95] ns-global-tag-prefix
  unfoldable pub ns-tag-prefix : Rule (List ℕ)
  ns-tag-prefix = copied cs ((chr cs c-tag ⊔ tag_char) ◆ any_span uri_char)

  -- ---- properties

  -- no production: a white, a break, the end or a flow indicator stands here
  abbrev pub NameEnds : ℕ → Type 0
  NameEnds i = Stands cs is_name i → ⊥

  -- [98] c-verbatim-tag (6.9.1)
  unfoldable pub c-verbatim-tag : Rule WrittenTag
  c-verbatim-tag = word cs (codes "!<") ▸ mapped decoded (copied cs (any_one_span uri_char)) ◂ chr cs 62

  -- [99] c-ns-shorthand-tag (6.9.1)
  unfoldable pub c-ns-shorthand-tag : Handles → Rule WrittenTag
  c-ns-shorthand-tag handles = with_value c-tag-handle (λ handle. mapped (joined handles handle) (copied cs (any_one_span tag_char)))

  -- [100] c-non-specific-tag (6.9.1)
  unfoldable pub c-non-specific-tag : Rule WrittenTag
  c-non-specific-tag = chr cs c-tag ▸ gives non_specific

  -- [97] c-ns-tag-property (6.9.1)
  unfoldable pub c-ns-tag-property : Handles → Rule WrittenTag
  c-ns-tag-property handles = (c-verbatim-tag ∪ c-ns-shorthand-tag handles ∪ c-non-specific-tag) ◂ ahead NameEnds

  -- [103] ns-anchor-name (6.9.2)
  unfoldable pub ns-anchor-name : Rule (List ℕ)
  ns-anchor-name = copied cs (whole_run cs is_name)

  -- [101] c-ns-anchor-property (6.9.2)
  unfoldable pub c-ns-anchor-property : Rule (List ℕ)
  c-ns-anchor-property = chr cs c-anchor ▸ ns-anchor-name

  -- [104] c-ns-alias-node (7.1)
  unfoldable pub c-ns-alias-node : Rule (List ℕ)
  c-ns-alias-node = chr cs c-alias ▸ ns-anchor-name

  -- [96] c-ns-properties(n,c) (6.9)
  unfoldable pub c-ns-properties : Handles → ℕ → Ctx → Rule Props
  c-ns-properties handles n c =
      with_value (c-ns-tag-property handles) (λ t.
      gives (record { anchor = None; tag = t }) ∪ (s-separate cs n c ▸ seen (λ a. record { anchor = Some (encode_utf8_all a); tag = t }) c-ns-anchor-property))
      ∪ with_value c-ns-anchor-property (λ a.
      gives (record { anchor = Some (encode_utf8_all a); tag = untagged }) ∪ (s-separate cs n c ▸ seen (λ t. record { anchor = Some (encode_utf8_all a); tag = t }) (c-ns-tag-property handles)))
