-- Tags, decoded: UTF-8 bytes. The seven tags of the core schema (YAML 1.2.2, 10.1 to 10.3).
use Rattle.std.specs.Prelude.{◌≡◌, ℕ, zero, suc, Bool, true, not, ◌&&◌, ◌||◌, nat_le, List, [], ◌∷◌, ◌++◌, length, codes, bytes_eq}
use Rattle.std.specs.Str.{is_utf8}
use Rattle.yaml_definitions.specs.model.Limits.{tag_limit}

-- UTF-8 of 1 to `tag_limit` bytes, and not `!`
unfoldable pub is_full : List ℕ → Bool
is_full bytes = is_utf8 bytes && (nat_le 1 (length bytes) && (nat_le (length bytes) tag_limit && not (bytes_eq bytes (33 ∷ []))))

abbrev pub IsTag : List ℕ → Type 0
IsTag bytes = is_full bytes ≡ true

unfoldable pub core_tag : List ℕ → List ℕ
core_tag name = codes "tag:yaml.org,2002:" ++ name

abbrev pub null_tag : List ℕ
null_tag = core_tag (codes "null")

abbrev pub bool_tag : List ℕ
bool_tag = core_tag (codes "bool")

abbrev pub int_tag : List ℕ
int_tag = core_tag (codes "int")

abbrev pub float_tag : List ℕ
float_tag = core_tag (codes "float")

abbrev pub str_tag : List ℕ
str_tag = core_tag (codes "str")

abbrev pub seq_tag : List ℕ
seq_tag = core_tag (codes "seq")

abbrev pub map_tag : List ℕ
map_tag = core_tag (codes "map")

-- the tag of a scalar, a sequence and a mapping that carry none, by the kind
abbrev pub default_tag : ℕ → List ℕ
default_tag zero = str_tag
default_tag (suc zero) = seq_tag
default_tag (suc (suc k)) = map_tag

abbrev pub is_core : List ℕ → Bool
is_core g =
    bytes_eq g null_tag || (bytes_eq g bool_tag || (bytes_eq g int_tag || (bytes_eq g float_tag || (bytes_eq g str_tag || (bytes_eq g seq_tag || bytes_eq g map_tag)))))
