-- The block spelling: worked examples, computed (YAML 1.2.2, 8.2).
use Rattle.std.proofs.Common.{◌≡◌, ℕ, List, [], ◌∷◌, refl}
use Rattle.std.specs.Prelude.{codes}
use Rattle.std.specs.Str.{chars}
use Rattle.std.specs.Char.{encode_utf8}
use Rattle.yaml_definitions.specs.model.Tag.{core_tag}
use Rattle.yaml_definitions.specs.model.Tree.{Tree, sequence}
use Rattle.yaml_definitions.specs.model.Order.{tree_cmp, arranged}
use Rattle.yaml_definitions.specs.model.Same.{same}
use Rattle.yaml_definitions.specs.canonical.Walk.{walk}
use Rattle.yaml_definitions.specs.canonical.CharText.{spell_char}
use Rattle.yaml_definitions.specs.grammar.Characters.{is_uri, is_word}
use Rattle.yaml_definitions.specs.canonical.TagText.{spell_byte, full_text, written_tag}
use Rattle.yaml_definitions.specs.canonical.Serialize.{anchor_name, serialize}
use Rattle.yaml_definitions.specs.canonical.NodeText.{node_text}
use Rattle.yaml_definitions.specs.canonical.Spell.{text_len, short, serial_of}
use Rattle.yaml_definitions.specs.canonical.Block.{in_block, line, block}
use Rattle.yaml_definitions.proofs.examples.Build.{str, int, null, trees, seq, map_of}

-- the block spelling of these documents, as characters
blocked : List Tree → List ℕ
unfolding tree_cmp spell_char serial_of same arranged walk serialize node_text text_len short written_tag full_text spell_byte is_uri is_word core_tag anchor_name chars encode_utf8 in_block line block
blocked f = block f

-- What holds no item is as in canonical text.
leaf_alone : blocked (int "1" ∷ seq [] ∷ []) ≡ codes "--- !!int \"1\"\n--- []\n"
unfolding blocked
leaf_alone = refl

-- A collection's items stand on lines of their own, after a space for each collection round it.
nested_sequences : blocked (seq (str "a" ∷ seq (int "1" ∷ seq (str "b" ∷ []) ∷ []) ∷ str "c" ∷ []) ∷ []) ≡ codes "--- \n- \"a\"\n- \n - !!int \"1\"\n - \n  - \"b\"\n- \"c\"\n"
unfolding blocked
nested_sequences = refl

-- A key, a colon between spaces, and the value or its lines.
mapping_lines : blocked (map_of ((str "a", str "b") ∷ (str "c", seq (str "d" ∷ [])) ∷ (str "e", map_of ((str "f", null) ∷ [])) ∷ []) ∷ [])
    ≡ codes "--- \n\"a\" : \"b\"\n\"c\" : \n - \"d\"\n\"e\" : \n \"f\" : !!null \"null\"\n"
unfolding blocked
mapping_lines = refl

-- A key stays in flow style, with all that it holds.
key_stays : blocked (map_of ((seq (str "a" ∷ map_of ((str "b", null) ∷ []) ∷ []), str "c") ∷ []) ∷ []) ≡ codes "--- \n[\"a\", {\"b\" : !!null \"null\"}] : \"c\"\n"
unfolding blocked
key_stays = refl

-- Anchors, aliases and tags stand as in canonical text.
anchors_stay : blocked (map_of ((str "b", int "1") ∷ (str "a", seq (str "x" ∷ [])) ∷ (str "c", seq (str "x" ∷ [])) ∷ []) ∷ []) ≡ codes "--- \n\"a\" : &a1 \n - \"x\"\n\"b\" : !!int \"1\"\n\"c\" : *a1\n"
unfolding blocked
anchors_stay = refl

tags_stay : blocked (seq (sequence (codes "!x") (trees (str "a" ∷ [])) ∷ []) ∷ []) ≡ codes "--- \n- !<!x> \n - \"a\"\n"
unfolding blocked
tags_stay = refl
