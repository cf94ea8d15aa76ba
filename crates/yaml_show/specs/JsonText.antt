-- Trees as JSON on one line (RFC 8259). The entries of each mapping stand in order: these are trees that are arranged. Which trees JSON can express is not said here.
use Rattle.std.specs.Prelude.{ℕ, cond, List, [], ◌∷◌, ◌++◌, codes, bytes_eq, flat_map}
use Rattle.yaml_definitions.specs.model.Tag.{str_tag, float_tag}
use Rattle.yaml_definitions.specs.model.Tree.{Tree, Trees, Pairs, scalar, sequence, mapping, end, item, done, entry}
use Rattle.yaml_show_scalar.specs.Escapes.{quoted}
use Rattle.yaml_show_scalar.specs.Numbers.{float_text}
use Rattle.yaml_show_scalar.specs.declared.escapes.Language.TheVariants.{Json}

-- A scalar, by its tag and its content: a string between double quotes, a float as people write it, null, bool and int by their canonical content.
unfoldable pub json_scalar : List ℕ → List ℕ → List ℕ
json_scalar g x = cond (bytes_eq g str_tag) (quoted Json x) (cond (bytes_eq g float_tag) (float_text x) x)

-- a key, which is a string, and its colon
unfoldable pub json_key : Tree → List ℕ
json_key (scalar g x) = quoted Json x ++ codes ": "
json_key (sequence g ts) = []
json_key (mapping g ps) = []

unfoldable mutual
  pub json_text : Tree → List ℕ
  json_text (scalar g x) = json_scalar g x
  json_text (sequence g ts) = 91 ∷ json_items [] ts
  json_text (mapping g ps) = 123 ∷ json_entries [] ps

  -- the items, each after a separator, and the bracket
  pub json_items : List ℕ → Trees → List ℕ
  json_items before end = 93 ∷ []
  json_items before (item t ts) = before ++ (json_text t ++ json_items (44 ∷ 32 ∷ []) ts)

  -- the entries, each after a separator, and the brace
  pub json_entries : List ℕ → Pairs → List ℕ
  json_entries before done = 125 ∷ []
  json_entries before (entry k v ps) = before ++ (json_key k ++ (json_text v ++ json_entries (44 ∷ 32 ∷ []) ps))

-- a line as a document of a stream, behind `--- `
abbrev pub line_document : Tree → List ℕ
line_document t = codes "--- " ++ (json_text t ++ (10 ∷ []))

-- the stream of the lines
abbrev pub line_stream : List Tree → List ℕ
line_stream f = flat_map line_document f
