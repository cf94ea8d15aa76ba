-- How many bytes a node takes that is short.
use Rattle.std.specs.Prelude.{ℕ, ◌+◌, true, cond, ◌==◌, nat_le, List, length}
use Rattle.std.specs.Str.{encode_utf8_all}
use Rattle.std.specs.declared.option.Option.TheVariants.{None}
use Rattle.yaml_definitions.specs.model.Event.{double}
use Rattle.yaml_definitions.specs.model.Limits.{short_limit}
use Rattle.yaml_definitions.specs.model.Serial.{SerialNode, scalar_at, sequence_at, mapping_at, end_serial, done_serial}
use Rattle.yaml_definitions.specs.canonical.Spell.{short, text_len}
use Rattle.yaml_definitions.specs.canonical.TagText.{tag_text, written_tag}
use Rattle.yaml_definitions.specs.model.Tree.{Tree, scalar, sequence, mapping, a_scalar, a_sequence, a_mapping}
use Rattle.yaml_tree.specs.declared.shown.Inside.{Inside}
use Rattle.yaml_tree.specs.declared.shown.Inside.TheVariants as shown

-- ---- of a tree

-- a scalar, or a collection without its parts, as it is written without an anchor
abbrev pub bare : Tree → SerialNode
bare (scalar g x) = scalar_at None (written_tag a_scalar g) double x
bare (sequence g ts) = sequence_at None (written_tag a_sequence g) true end_serial
bare (mapping g ps) = mapping_at None (written_tag a_mapping g) true done_serial

-- how many bytes a short tree takes, and of one that is not short 0
abbrev pub short_len : Tree → ℕ
short_len t = cond (short t) (text_len (bare t)) 0

-- ---- of what a node shows

abbrev pub if_short : ℕ → ℕ
if_short len = cond (nat_le len short_limit) len 0

-- a scalar's tag and content
abbrev pub scalar_len : List ℕ → List ℕ → ℕ
scalar_len tag content = text_len (scalar_at None (written_tag a_scalar tag) double content)

-- a tag and two brackets
abbrev pub brackets_len : ℕ → List ℕ → ℕ
brackets_len kind tag = length (encode_utf8_all (tag_text (written_tag kind tag))) + 2

abbrev pub shown_len : {I : Type 0} → List ℕ → Inside I → ℕ
shown_len tag (shown.Scalar content) = if_short (scalar_len tag content.now)
shown_len tag (shown.Sequence items) = cond (length items.now == 0) (if_short (brackets_len a_sequence tag)) 0
shown_len tag (shown.Mapping entries) = cond (length entries.now == 0) (if_short (brackets_len a_mapping tag)) 0
