-- Nodes as values of JSON (RFC 8259). A tree has its pairs in the order of their keys.
use Rattle.std.specs.Prelude.{◌≡◌, ◌⊎◌, ◌≤◌, ◌<◌, ℕ, zero, suc, Bool, true, false, not, ◌&&◌, ◌||◌, cond, List, [], ◌++◌, length, bytes_eq, codes}
use Rattle.yaml_definitions.specs.model.Tree.{Tree, Trees, Pairs, scalar, sequence, mapping, end, item, done, entry, height}
use Rattle.yaml_definitions.specs.model.Tag.{str_tag, float_tag, seq_tag, map_tag}
use Rattle.yaml_definitions.specs.model.Order.{arranged}
use Rattle.yaml_json.specs.Json.{IsJson}
use Rattle.yaml_show_scalar.specs.Escapes.{quoted}
use Rattle.yaml_show_scalar.specs.declared.escapes.Language.TheVariants.{Json}
use Rattle.yaml_show_scalar.specs.Numbers.{is_in_words, float_text}
use Rattle.yaml_show_scalar.specs.Stops.{Stops}
use Rattle.yaml_show_scalar.specs.Tags.{is_resolved}
use Rattle.review_paths.specs.declared.unsaid.Unsaid.{Unsaid}
use Rattle.review_paths.specs.declared.unsaid.Unsaid.TheVariants.{Stopped, NoValue}

-- a comma, but not before the first part
abbrev pub comma : ℕ → List ℕ
comma zero = []
comma (suc place) = codes ","

-- ---- texts

-- a str as a string, a float with a point or an exponent, and null, a bool or an int as its canonical content
unfoldable pub scalar_json : List ℕ → List ℕ → List ℕ
scalar_json g x = cond (bytes_eq g str_tag) (quoted Json x) (cond (bytes_eq g float_tag) (float_text x) x)

-- the content of a key, and no other key
abbrev pub name_json : Tree → List ℕ
name_json (scalar g x) = quoted Json x
name_json (sequence g ts) = []
name_json (mapping g ps) = []

-- a sequence as an array, and a mapping as an object
abbrev mutual
  pub value_json : Tree → List ℕ
  value_json (scalar g x) = scalar_json g x
  value_json (sequence g ts) = codes "[" ++ (items_json 0 ts ++ codes "]")
  value_json (mapping g ps) = codes "{" ++ (entries_json 0 ps ++ codes "}")

  pub items_json : ℕ → Trees → List ℕ
  items_json place end = []
  items_json place (item t ts) = comma place ++ (value_json t ++ items_json (suc place) ts)

  pub entries_json : ℕ → Pairs → List ℕ
  entries_json place done = []
  entries_json place (entry k v ps) = comma place ++ (name_json k ++ (codes ":" ++ (value_json v ++ entries_json (suc place) ps)))

-- ---- what JSON has

-- a str, and a null, a bool, an int or a float that is no `.inf`, `-.inf` or `.nan`
unfoldable pub scalar_has_json : List ℕ → List ℕ → Bool
scalar_has_json g x = bytes_eq g str_tag || (is_resolved g && not (bytes_eq g float_tag && is_in_words x))

-- a str
abbrev pub is_string : Tree → Bool
is_string (scalar g x) = bytes_eq g str_tag
is_string (sequence g ts) = false
is_string (mapping g ps) = false

-- each part is one that JSON has, and each key is a str
abbrev mutual
  pub has_json : Tree → Bool
  has_json (scalar g x) = scalar_has_json g x
  has_json (sequence g ts) = bytes_eq g seq_tag && items_have_json ts
  has_json (mapping g ps) = bytes_eq g map_tag && entries_have_json ps

  pub items_have_json : Trees → Bool
  items_have_json end = true
  items_have_json (item t ts) = has_json t && items_have_json ts

  pub entries_have_json : Pairs → Bool
  entries_have_json done = true
  entries_have_json (entry k v ps) = is_string k && (has_json v && entries_have_json ps)

-- ---- what is written

-- The tree is a str, and this is its content.
abbrev pub IsName : Tree → List ℕ → Type 0
IsName t x = (name_json t ≡ quoted Json x) × (is_string t ≡ true)

-- JSON has it, and the new text is the old one and then it
abbrev pub Says : Tree → List ℕ → List ℕ → Type 0
Says t old new = (new ≡ old ++ value_json t) × (has_json t ≡ true)

abbrev pub SaysKey : Tree → List ℕ → List ℕ → Type 0
SaysKey t old new = (new ≡ old ++ (name_json t ++ codes ":")) × (is_string t ≡ true)

abbrev pub SaysItems : Trees → List ℕ → List ℕ → Type 0
SaysItems ts old new = (new ≡ old ++ (codes "[" ++ (items_json 0 ts ++ codes "]"))) × (items_have_json ts ≡ true)

abbrev pub SaysEntries : Pairs → List ℕ → List ℕ → Type 0
SaysEntries ps old new = (new ≡ old ++ (codes "{" ++ (entries_json 0 ps ++ codes "}"))) × (entries_have_json ps ≡ true)

-- ---- what is not

-- What an error says of a text that was to be written where so many levels are left: JSON does not have it, or it has more levels; or it has more bytes than the limit, or memory is refused.
abbrev pub Unsays : Bool → ℕ → ℕ → ℕ → List ℕ → Unsaid → Type 0
Unsays has high left limit text NoValue = (has ≡ false) ⊎ (left ≤ high)
Unsays has high left limit text (Stopped stop) = Stops limit text stop

-- Why a tree has no value: JSON does not have it, it has 100 levels or more inside it, or its text has more bytes than there is room for. Or the text is no JSON, of which no tree is known.
abbrev pub HasNoValue : Tree → ℕ → Type 0
HasNoValue t room =
    (has_json (arranged t) ≡ false)
    ⊎ ((100 ≤ height (arranged t))
    ⊎ ((room < length (value_json (arranged t)))
    ⊎ (IsJson (value_json (arranged t)) → ⊥)))

-- The text is the JSON of a tree that JSON has.
pub record IsValueOf (t : Tree) (text : List ℕ) : Type 0 where
  pub json : IsJson text
  pub has : has_json (arranged t) ≡ true
  pub is : text ≡ value_json (arranged t)
