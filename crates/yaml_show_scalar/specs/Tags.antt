-- Tags as they are shown (YAML 1.2.2, 6.9.1).
use Rattle.std.specs.Prelude.{ℕ, Bool, not, ◌||◌, ◌&&◌, ◌==◌, cond, nat_le, ◌/◌, ◌%◌, List, [], ◌∷◌, ◌++◌, length, codes, bytes_eq, encode_utf8_all, flat_map}
use Rattle.std.specs.List.{list_all}
use Rattle.std.specs.declared.option.Option.{Option}
use Rattle.std.specs.declared.option.Option.TheVariants.{None, Some}
use Rattle.yaml_definitions.specs.model.Tag.{null_tag, bool_tag, int_tag, float_tag}
use Rattle.yaml_definitions.specs.canonical.CharText.{hex_digit}
use Rattle.yaml_definitions.specs.grammar.Characters.{is_uri}
use Rattle.yaml_show_scalar.specs.Texts.{behind}

-- a letter, a digit, or one of `_./:@+-`
unfoldable pub is_suffix_byte : ℕ → Bool
is_suffix_byte b =
    (nat_le 48 b && nat_le b 57) || ((nat_le 65 b && nat_le b 90) || ((nat_le 97 b && nat_le b 122)
    || ((b == 95) || ((b == 46) || ((b == 47) || ((b == 58) || ((b == 64) || ((b == 43) || (b == 45)))))))))

-- a suffix that is written as it is behind `!` or `!!`
abbrev pub is_suffix : List ℕ → Bool
is_suffix text = not (length text == 0) && list_all is_suffix_byte text

abbrev pub if_suffix : Option (List ℕ) → Option (List ℕ)
if_suffix None = None
if_suffix (Some text) = cond (is_suffix text) (Some text) None

-- what stands behind this front of a tag, if it is such a suffix
unfoldable pub suffix_behind : List ℕ → List ℕ → Option (List ℕ)
suffix_behind front g = if_suffix (behind front g)

-- `tag:yaml.org,2002:`
abbrev pub tag_prefix : List ℕ
tag_prefix = codes "tag:yaml.org,2002:"

-- a byte that stands in a verbatim tag as it is: a URI character other than `#`, which some readers reject there
unfoldable pub is_tag_byte : ℕ → Bool
is_tag_byte b = not (b == 35) && is_uri b

-- a byte of a verbatim tag: as it is, or percent-encoded
unfoldable pub tag_byte : ℕ → List ℕ
tag_byte b = cond (is_tag_byte b) (b ∷ []) (37 ∷ hex_digit (b / 16) ∷ hex_digit (b % 16) ∷ [])

-- a verbatim tag: its bytes between `!<` and `>`
abbrev pub verbatim : List ℕ → List ℕ
verbatim g = codes "!<" ++ (encode_utf8_all (flat_map tag_byte g) ++ codes ">")

-- a shorthand with this handle, or another text
abbrev pub shorthand_or : List ℕ → Option (List ℕ) → List ℕ → List ℕ
shorthand_or handle None other = other
shorthand_or handle (Some suffix) other = handle ++ suffix

-- a tag without a shorthand with `!!`: one with `!`, if it has a suffix for it, else verbatim
unfoldable pub other_text : List ℕ → List ℕ
other_text g = shorthand_or (codes "!") (suffix_behind (codes "!") g) (verbatim g)

-- a tag: a shorthand with `!!`, if it has a suffix for it
unfoldable pub tag_text : List ℕ → List ℕ
tag_text g = shorthand_or (codes "!!") (suffix_behind tag_prefix g) (other_text g)

-- null, bool, int and float: a plain scalar has one of them by its text
unfoldable pub is_resolved : List ℕ → Bool
is_resolved g = bytes_eq g null_tag || (bytes_eq g bool_tag || (bytes_eq g int_tag || bytes_eq g float_tag))

-- the tag is not written: it is the kind's own, or one of those
unfoldable pub is_left_out : List ℕ → List ℕ → Bool
is_left_out g own = bytes_eq g own || is_resolved g

-- a tag that is written, and a space
unfoldable pub tag_before : List ℕ → List ℕ → List ℕ
tag_before g own = cond (is_left_out g own) [] (tag_text g ++ (32 ∷ []))
