-- Canonical text: worked examples, computed.
use Rattle.std.proofs.Common.{◌≡◌, ℕ, true, false, List, [], ◌∷◌, ◌++◌, refl}
use Rattle.std.specs.Prelude.{codes, replicate}
use Rattle.std.specs.Str.{chars}
use Rattle.std.specs.Char.{encode_utf8}
use Rattle.yaml_definitions.specs.model.Tag.{core_tag, str_tag}
use Rattle.yaml_definitions.specs.model.Tree.{Tree, scalar, sequence, end}
use Rattle.yaml_definitions.specs.model.Order.{tree_cmp, arranged}
use Rattle.yaml_definitions.specs.model.Same.{same}
use Rattle.yaml_definitions.specs.canonical.Walk.{walk}
use Rattle.yaml_definitions.specs.canonical.CharText.{spell_char}
use Rattle.yaml_definitions.specs.grammar.Characters.{is_uri, is_word}
use Rattle.yaml_definitions.specs.canonical.TagText.{spell_byte, full_text, written_tag}
use Rattle.yaml_definitions.specs.canonical.Serialize.{anchor_name, serialize}
use Rattle.yaml_definitions.specs.canonical.NodeText.{node_text}
use Rattle.yaml_definitions.specs.canonical.Spell.{text_len, short, serial_of, spell}
use Rattle.yaml_definitions.proofs.examples.Build.{str, int, float, bool, null, seq, map_of}

-- the canonical text of these documents, as characters
spelled : List Tree → List ℕ
unfolding tree_cmp spell_char serial_of same arranged walk serialize node_text text_len short spell written_tag full_text spell_byte is_uri is_word core_tag anchor_name chars encode_utf8
spelled f = spell f

-- ---- documents

-- No document is the empty text; each document is a line of its own.
no_document : spelled [] ≡ []
unfolding spelled
no_document = refl

two_documents : spelled (seq (str "p" ∷ []) ∷ null ∷ []) ≡ codes "--- [\"p\"]\n--- !!null \"null\"\n"
unfolding spelled
two_documents = refl

-- Each kind of node: tags, quotes, brackets, braces, and the colon between spaces.
each_kind : spelled (seq (int "1" ∷ float "1" ∷ str "1" ∷ map_of ((bool "true", seq []) ∷ []) ∷ map_of [] ∷ []) ∷ [])
    ≡ codes "--- [!!int \"1\", !!float \"1\", \"1\", {!!bool \"true\" : []}, {}]\n"
unfolding spelled
each_kind = refl

-- A tag that is no core tag of its kind is verbatim: `!<!%c3%a9> v`.
encoded_tag : spelled (scalar (33 ∷ 195 ∷ 169 ∷ []) (codes "v") ∷ []) ≡ codes "--- !<!%C3%A9> \"v\"\n"
unfolding spelled
encoded_tag = refl

-- The text `Aé/` and an escape character.
escaped_text : spelled (scalar str_tag (65 ∷ 195 ∷ 169 ∷ 47 ∷ 27 ∷ []) ∷ []) ≡ codes "--- \"A" ++ (233 ∷ codes "/\\x1B\"\n")
unfolding spelled
escaped_text = refl

-- ---- order

-- `{[a]: 1, b: 2}`: the lower key stands first.
lower_key_first : spelled (map_of ((seq (str "a" ∷ []), int "1") ∷ (str "b", int "2") ∷ []) ∷ []) ≡ codes "--- {\"b\" : !!int \"2\", [\"a\"] : !!int \"1\"}\n"
unfolding spelled
lower_key_first = refl

-- `{2: a, 10: b}`: keys stand by the bytes of their content.
keys_by_bytes : spelled (map_of ((int "2", str "a") ∷ (int "10", str "b") ∷ []) ∷ []) ≡ codes "--- {!!int \"10\" : \"b\", !!int \"2\" : \"a\"}\n"
unfolding spelled
keys_by_bytes = refl

-- `{b: 1, 2: x, ~: y, true: z}`: keys stand by their tags' bytes.
keys_by_tag : spelled (map_of ((str "b", int "1") ∷ (int "2", str "x") ∷ (null, str "y") ∷ (bool "true", str "z") ∷ []) ∷ [])
    ≡ codes "--- {!!bool \"true\" : \"z\", !!int \"2\" : \"x\", !!null \"null\" : \"y\", \"b\" : !!int \"1\"}\n"
unfolding spelled
keys_by_tag = refl

-- ---- anchors by content

-- The first of equal nodes is anchored, and the others are aliases; a node without an equal carries no anchor.
anchored_by_content : spelled (seq (seq (str "p" ∷ str "q" ∷ []) ∷ seq (str "p" ∷ str "q" ∷ []) ∷ seq (str "p" ∷ []) ∷ seq (str "p" ∷ str "q" ∷ []) ∷ []) ∷ [])
    ≡ codes "--- [&a1 [\"p\", \"q\"], *a1, [\"p\"], *a1]\n"
unfolding spelled
anchored_by_content = refl

-- Equal mappings are found whatever the order of their keys.
equal_mappings : spelled (seq (map_of ((str "b", str "") ∷ (str "a", str "") ∷ []) ∷ map_of ((str "a", str "") ∷ (str "b", str "") ∷ []) ∷ []) ∷ [])
    ≡ codes "--- [&a1 {\"a\" : \"\", \"b\" : \"\"}, *a1]\n"
unfolding spelled
equal_mappings = refl

-- Names are numbered by the places of what they name, and what stands inside an alias is not written: each item twice the one before.
doubled : Tree → Tree
doubled t = seq (t ∷ t ∷ [])

named_by_place : spelled (seq (doubled (str "x") ∷ doubled (doubled (str "x")) ∷ doubled (doubled (doubled (str "x"))) ∷ []) ∷ []) ≡ codes "--- [&a1 [\"x\", \"x\"], &a2 [*a1, *a1], [*a2, *a2]]\n"
unfolding spelled doubled
named_by_place = refl

-- A key is written before its value: `{[a]: [a]}`.
key_before_value : spelled (map_of ((seq (str "a" ∷ []), seq (str "a" ∷ [])) ∷ []) ∷ []) ≡ codes "--- {&a1 [\"a\"] : *a1}\n"
unfolding spelled
key_before_value = refl

-- `{k: [a], [a]: k}`: a value may be anchored and a later key its alias.
value_before_key : spelled (map_of ((str "k", seq (str "a" ∷ [])) ∷ (seq (str "a" ∷ []), str "k") ∷ []) ∷ []) ≡ codes "--- {\"k\" : &a1 [\"a\"], *a1 : \"k\"}\n"
unfolding spelled
value_before_key = refl

-- `{x: [1], a: [1]}`: the first place is that in the order of keys.
place_by_order : spelled (map_of ((str "x", seq (int "1" ∷ [])) ∷ (str "a", seq (int "1" ∷ [])) ∷ []) ∷ []) ≡ codes "--- {\"a\" : &a1 [!!int \"1\"], \"x\" : *a1}\n"
unfolding spelled
place_by_order = refl

-- Each document has names of its own, and repeats nothing of another.
names_by_document : spelled (doubled (seq (str "p" ∷ [])) ∷ seq (str "p" ∷ []) ∷ doubled (seq (str "p" ∷ [])) ∷ []) ≡ codes "--- [&a1 [\"p\"], *a1]\n--- [\"p\"]\n--- [&a1 [\"p\"], *a1]\n"
unfolding spelled doubled
names_by_document = refl

-- The tenth name has two digits.
tenth_name : anchor_name 10 ≡ codes "a10"
unfolding anchor_name
tenth_name = refl

-- ---- what is short is always written out

letters : ℕ → List ℕ
letters n = replicate n 97

-- A text of 62 letters takes 64 bytes, and is written twice; one of 63 takes 65, and is repeated by an alias.
at_the_limit : spelled (doubled (scalar str_tag (letters 62)) ∷ []) ≡ codes "--- [\"" ++ (letters 62 ++ (codes "\", \"" ++ (letters 62 ++ codes "\"]\n")))
unfolding spelled doubled letters
at_the_limit = refl

past_the_limit : spelled (doubled (scalar str_tag (letters 63)) ∷ []) ≡ codes "--- [&a1 \"" ++ (letters 63 ++ codes "\", *a1]\n")
unfolding spelled doubled letters
past_the_limit = refl

-- The tag counts with its space: `!<!x> ` takes 6 bytes.
tag_at_the_limit : short (scalar (codes "!x") (letters 56)) ≡ true
unfolding spelled letters
tag_at_the_limit = refl

tag_past_the_limit : short (scalar (codes "!x") (letters 57)) ≡ false
unfolding spelled letters
tag_past_the_limit = refl

-- Bytes are counted, and of the spelling: an escape takes four, and `é` two.
escapes_at_the_limit : short (scalar str_tag (replicate 15 1 ++ (195 ∷ 169 ∷ []))) ≡ true
unfolding spelled
escapes_at_the_limit = refl

escapes_past_the_limit : short (scalar str_tag (replicate 15 1 ++ (195 ∷ 169 ∷ 97 ∷ []))) ≡ false
unfolding spelled
escapes_past_the_limit = refl

-- An empty collection is short by its tag alone: `!<` and 58 letters and `> []` take 64 bytes. No other collection is short.
empty_at_the_limit : short (sequence (letters 58) end) ≡ true
unfolding spelled letters
empty_at_the_limit = refl

empty_past_the_limit : short (sequence (letters 59) end) ≡ false
unfolding spelled letters
empty_past_the_limit = refl

collection_is_never_short : short (seq (str "" ∷ [])) ≡ false
unfolding spelled
collection_is_never_short = refl
