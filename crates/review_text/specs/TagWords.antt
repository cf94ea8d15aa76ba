-- What is said of a node whose tag is not for it: of another kind of node, or of a scalar with another text.
use Rattle.std.specs.Prelude.{ℕ, ◌==◌, nat_lt, cond, List, [], ◌++◌, drop, length, codes, bytes_eq, eqb}
use Rattle.std.specs.List.{starts_with}
use Rattle.yaml_definitions.specs.model.Tag.{null_tag, bool_tag, int_tag, float_tag, seq_tag, map_tag}
use Rattle.yaml_definitions.specs.model.Event.{Event, sequence_start, mapping_start, scalar_event, full}
use Rattle.review_text.specs.Shown.{front}
use Rattle.review_text.specs.Terminal.{terminal}

-- what the tags of the core schema are for (YAML 1.2.2, 10.1 to 10.3)
unfoldable pub bearers : List ℕ → List ℕ
bearers tag = cond (bytes_eq tag seq_tag) (codes "sequences") (cond (bytes_eq tag map_tag) (codes "mappings") (codes "scalars"))

-- a text that a tag of the core schema takes (10.3.2)
unfoldable pub accepted : List ℕ → List ℕ
accepted tag =
    cond (bytes_eq tag null_tag) (codes "write null, ~ or nothing")
    (cond (bytes_eq tag bool_tag) (codes "write true or false")
    (cond (bytes_eq tag int_tag) (codes "write a whole number, as 12, -12, 0o14 or 0xC")
    (cond (bytes_eq tag float_tag) (codes "write a number, as 12, 1.5, 1e3, .inf or .nan") (codes "write another text"))))

-- what stands behind the prefix of the core schema, and any other tag whole
abbrev pub core_prefix : List ℕ
core_prefix = codes "tag:yaml.org,2002:"

abbrev pub short_name : List ℕ → List ℕ
short_name tag = cond (starts_with eqb tag core_prefix) (drop (length core_prefix) tag) tag

-- the short form of a tag between backticks
abbrev pub tag_text : List ℕ → List ℕ
tag_text tag = codes "`!!" ++ (short_name tag ++ codes "`")

-- the tag is not for this kind of node
abbrev pub kind_words : List ℕ → List ℕ → List ℕ
kind_words tag kind = tag_text tag ++ (codes " is for " ++ (bearers tag ++ (codes ", and this is a " ++ kind)))

-- a text of at most 60 bytes, or the start of a longer one
abbrev pub content_shown : List ℕ → List ℕ
content_shown text =
    cond (length text == 0) (codes "an empty text")
    (codes "`" ++ (terminal (front 60 text) ++ cond (nat_lt (length (front 60 text)) (length text)) (codes "...`") (codes "`")))

-- a scalar's text is none of its tag, and what would be one
abbrev pub content_words : List ℕ → List ℕ → List ℕ
content_words tag text = content_shown text ++ (codes " is no " ++ (tag_text tag ++ (codes ": " ++ accepted tag)))

abbrev pub scalar_words : List ℕ → List ℕ → List ℕ
scalar_words tag text = cond (bytes_eq tag seq_tag) (kind_words tag (codes "scalar")) (cond (bytes_eq tag map_tag) (kind_words tag (codes "scalar")) (content_words tag text))

-- of the node that an event begins, if it has a tag that is not `!` alone
abbrev pub tag_words : Event → List ℕ
tag_words (sequence_start flow anchor (full tag)) = kind_words tag (codes "sequence")
tag_words (mapping_start flow anchor (full tag)) = kind_words tag (codes "mapping")
tag_words (scalar_event anchor (full tag) style text) = scalar_words tag text
tag_words _ = []
