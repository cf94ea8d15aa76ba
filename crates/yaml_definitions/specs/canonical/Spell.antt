-- The canonical text of trees.
use Rattle.std.specs.Prelude.{ℕ, Bool, true, false, nat_le, List, [], ◌∷◌, map, length, encode_utf8_all}
use Rattle.std.specs.declared.option.Option.TheVariants.{None}
use Rattle.yaml_definitions.specs.model.Limits.{short_limit}
use Rattle.yaml_definitions.specs.model.Tree.{Tree, scalar, sequence, mapping, end, done, a_scalar, a_sequence, a_mapping}
use Rattle.yaml_definitions.specs.model.Order.{arranged}
use Rattle.yaml_definitions.specs.canonical.Walk.{walk, agains}
use Rattle.yaml_definitions.specs.model.Event.{Event, double}
use Rattle.yaml_definitions.specs.model.Serial.{SerialNode, scalar_at, sequence_at, mapping_at, end_serial, done_serial, Document, stream_events}
use Rattle.yaml_definitions.specs.canonical.TagText.{written_tag}
use Rattle.yaml_definitions.specs.canonical.Serialize.{serialize}
use Rattle.yaml_definitions.specs.canonical.NodeText.{node_text}

-- how many bytes a node takes by itself, its tag included
unfoldable pub text_len : SerialNode → ℕ
text_len m = length (encode_utf8_all (node_text m []))

-- a scalar or an empty collection of at most `short_limit` bytes
unfoldable pub short : Tree → Bool
short (scalar g x) = nat_le (text_len (scalar_at None (written_tag a_scalar g) double x)) short_limit
short (sequence g end) = nat_le (text_len (sequence_at None (written_tag a_sequence g) true end_serial)) short_limit
short (mapping g done) = nat_le (text_len (mapping_at None (written_tag a_mapping g) true done_serial)) short_limit
short _ = false

-- the serialization tree of a tree whose pairs stand in order
abbrev pub serial_of_arranged : Tree → SerialNode
serial_of_arranged t = serialize short (agains (walk short t [])) t []

unfoldable pub serial_of : Tree → SerialNode
serial_of t = serial_of_arranged (arranged t)

-- the text of a forest, as characters
unfoldable pub spell : List Tree → List ℕ
spell [] = []
spell (t ∷ f) = 45 ∷ 45 ∷ 45 ∷ 32 ∷ node_text (serial_of t) (10 ∷ spell f)

-- and as bytes
unfoldable pub spell_bytes : List Tree → List ℕ
spell_bytes f = encode_utf8_all (spell f)

-- its documents, each with an explicit start alone, and its events
abbrev pub document_of : SerialNode → Document
document_of m = record { starts = true; root = m; ends = false }

unfoldable pub spelled : List Tree → List Event
spelled f = stream_events (map (λ t. document_of (serial_of t)) f)
