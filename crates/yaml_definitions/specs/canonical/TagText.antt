-- How a node's tag is written in canonical text.
use Rattle.std.specs.Prelude.{ℕ, cond, ◌/◌, ◌%◌, ◌++◌, List, [], ◌∷◌, codes}
use Rattle.std.specs.Prelude.{bytes_eq}
use Rattle.yaml_definitions.specs.grammar.Characters.{is_uri}
use Rattle.yaml_definitions.specs.canonical.CharText.{hex_digit}
use Rattle.yaml_definitions.specs.model.Tag.{null_tag, bool_tag, int_tag, float_tag, default_tag}
use Rattle.yaml_definitions.specs.model.Event.{WrittenTag, untagged, non_specific, full}

unfoldable pub spell_byte : ℕ → List ℕ
spell_byte b = cond (is_uri b) (b ∷ []) (37 ∷ hex_digit (b / 16) ∷ hex_digit (b % 16) ∷ [])

-- the bytes, percent-encoded, before more
abbrev pub encoded : List ℕ → List ℕ → List ℕ
encoded [] more = more
encoded (b ∷ bs) more = spell_byte b ++ encoded bs more

-- a tag as it is written out
unfoldable pub full_text : List ℕ → List ℕ
full_text g =
    cond (bytes_eq g null_tag) (codes "!!null ") (cond (bytes_eq g bool_tag) (codes "!!bool ") (cond (bytes_eq g int_tag) (codes "!!int ") (cond (bytes_eq g float_tag) (codes "!!float ")
    (codes "!<" ++ encoded g (codes "> ")))))

abbrev pub tag_text : WrittenTag → List ℕ
tag_text untagged = []
tag_text non_specific = codes "! "
tag_text (full g) = full_text g

-- str, seq and map are not written
unfoldable pub written_tag : ℕ → List ℕ → WrittenTag
written_tag kind g = cond (bytes_eq g (default_tag kind)) untagged (full g)
