-- The laws at a forest of two documents: an anchor, an alias, a short tag, and a tag with escapes.
use Rattle.std.proofs.Common.{◌≡◌, ℕ, true, false, Some, None, List, [], ◌∷◌, ◌++◌, refl, ap, arith}
use Rattle.std.specs.Prelude.{codes, encode_utf8_all, length, IsTrue}
use Rattle.std.specs.Str.{chars, is_utf8}
use Rattle.std.specs.Char.{encode_utf8}
use Rattle.yaml_definitions.specs.model.Tag.{core_tag, int_tag, is_full}
use Rattle.yaml_definitions.specs.model.Tree.{Tree, scalar}
use Rattle.yaml_definitions.specs.model.Order.{tree_cmp, arranged}
use Rattle.yaml_definitions.specs.model.Same.{same}
use Rattle.yaml_definitions.specs.canonical.Walk.{walk}
use Rattle.yaml_definitions.specs.canonical.CharText.{spell_char}
use Rattle.yaml_definitions.specs.grammar.Characters.{is_uri, is_word}
use Rattle.yaml_definitions.specs.grammar.Reading.{Reads}
use Rattle.yaml_definitions.specs.canonical.TagText.{spell_byte, full_text, written_tag}
use Rattle.yaml_definitions.specs.canonical.Serialize.{anchor_name, serialize}
use Rattle.yaml_definitions.specs.canonical.NodeText.{node_text}
use Rattle.yaml_definitions.specs.model.Event.{Event, untagged, full, double, stream_start, stream_end, document_start, document_end, sequence_start, sequence_end, mapping_start, mapping_end, scalar_event, alias_event}
use Rattle.yaml_definitions.specs.model.Serial.{flat, stream_events}
use Rattle.yaml_definitions.specs.canonical.Spell.{text_len, short, serial_of, spell, spell_bytes, spelled}
use Rattle.yaml_definitions.specs.canonical.Block.{in_block, line, block, block_bytes, blocked, KeysFit}
use Rattle.yaml_definitions.specs.model.Core.{resolve, collection_tag, by_tag, value_of, int_of, content_of, int_text, natural_text}
use Rattle.yaml_definitions.specs.model.Proper.{IsProper, Admitted}
use Rattle.yaml_definitions.proofs.examples.Build.{str, int, seq, map_of}
use Rattle.law_read_back.proofs.StreamReadings.{spellings_are_read}
use Rattle.law_read_back.proofs.BlockReadings.{blocks_are_read}

-- `!é%`
odd_tag : List ℕ
odd_tag = 33 ∷ 195 ∷ 169 ∷ 37 ∷ []

forest : List Tree
forest = map_of ((str "a", seq (int "1" ∷ [])) ∷ (str "b", seq (int "1" ∷ [])) ∷ []) ∷ scalar odd_tag (codes "v") ∷ []

int_proper : IsProper (int "1")
unfolding IsProper is_full is_utf8 chars core_tag resolve by_tag value_of int_of content_of int_text natural_text encode_utf8
int_proper = (refl, refl, refl)

str_proper : (IsProper (str "a")) × IsProper (str "b")
unfolding IsProper is_full is_utf8 chars core_tag resolve by_tag encode_utf8
str_proper = ((refl, refl, refl), (refl, refl, refl))

odd_proper : IsProper (scalar odd_tag (codes "v"))
unfolding IsProper is_full is_utf8 chars core_tag resolve by_tag encode_utf8 odd_tag
odd_proper = (refl, refl, refl)

flow_text : spell forest ≡ codes "--- {\"a\" : &a1 [!!int \"1\"], \"b\" : *a1}\n--- !<!%C3%A9%25> \"v\"\n"
unfolding forest odd_tag chars core_tag tree_cmp spell_char serial_of same arranged walk serialize node_text text_len short spell written_tag full_text spell_byte is_uri is_word anchor_name encode_utf8
flow_text = refl

block_text : block forest ≡ codes "--- \n\"a\" : &a1 \n - !!int \"1\"\n\"b\" : *a1\n--- !<!%C3%A9%25> \"v\"\n"
unfolding forest odd_tag chars core_tag tree_cmp spell_char serial_of same arranged walk serialize node_text text_len short written_tag full_text spell_byte is_uri is_word anchor_name encode_utf8 in_block line block
block_text = refl

is_true : IsTrue true
is_true = refl

seq_proper : IsProper (seq (int "1" ∷ []))
unfolding IsProper is_full is_utf8 chars core_tag collection_tag encode_utf8
seq_proper = (refl, refl, (int_proper, tt))

map_proper : IsProper (map_of ((str "a", seq (int "1" ∷ [])) ∷ (str "b", seq (int "1" ∷ [])) ∷ []))
unfolding IsProper is_full is_utf8 chars core_tag collection_tag encode_utf8
map_proper = (refl, refl, (str_proper.0, seq_proper, (str_proper.1, seq_proper, tt)))

admitted : Admitted forest
unfolding forest same spell_bytes encode_utf8 core_tag
admitted = record {
  trees = (record { proper = map_proper; keyed = is_true; low = omega arith }, (record { proper = odd_proper; keyed = is_true; low = omega arith }, tt));
  fits = let e : length (spell_bytes forest) ≡ length (encode_utf8_all (codes "--- {\"a\" : &a1 [!!int \"1\"], \"b\" : *a1}\n--- !<!%C3%A9%25> \"v\"\n")) = ap (λ z. length (encode_utf8_all z)) flow_text in omega (arith, e);
}

-- `!!int "1"` under an anchor or in its place
ones : List Event
ones = scalar_event None (full int_tag) double (codes "1") ∷ sequence_end ∷ []

-- ..and the events of the canonical text
flow_row : Reads (encode_utf8_all (codes "--- {\"a\" : &a1 [!!int \"1\"], \"b\" : *a1}\n--- !<!%C3%A9%25> \"v\"\n"))
    (stream_start ∷ document_start true ∷ mapping_start true None untagged ∷ scalar_event None untagged double (codes "a") ∷ sequence_start true (Some (codes "a1")) untagged
    ∷ (ones ++ (scalar_event None untagged double (codes "b") ∷ alias_event (codes "a1") ∷ mapping_end ∷ document_end false
    ∷ document_start true ∷ scalar_event None (full odd_tag) double (codes "v") ∷ document_end false ∷ stream_end ∷ [])))
unfolding forest ones odd_tag chars core_tag tree_cmp serial_of same arranged walk serialize node_text text_len short written_tag full_text spell_byte is_uri is_word anchor_name encode_utf8 spelled stream_events flat spell_bytes spell_char spell
flow_row = spellings_are_read forest admitted

block_row : Reads (encode_utf8_all (codes "--- \n\"a\" : &a1 \n - !!int \"1\"\n\"b\" : *a1\n--- !<!%C3%A9%25> \"v\"\n"))
    (stream_start ∷ document_start true ∷ mapping_start false None untagged ∷ scalar_event None untagged double (codes "a") ∷ sequence_start false (Some (codes "a1")) untagged
    ∷ (ones ++ (scalar_event None untagged double (codes "b") ∷ alias_event (codes "a1") ∷ mapping_end ∷ document_end false
    ∷ document_start true ∷ scalar_event None (full odd_tag) double (codes "v") ∷ document_end false ∷ stream_end ∷ [])))
unfolding forest ones odd_tag chars core_tag tree_cmp serial_of same arranged walk serialize node_text text_len short written_tag full_text spell_byte is_uri is_word anchor_name encode_utf8 blocked stream_events flat block_bytes block in_block line spell_char KeysFit
block_row = blocks_are_read forest admitted (omega arith) ((omega arith, (tt, tt), (omega arith, tt, tt)), (tt, tt))
