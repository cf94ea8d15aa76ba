-- Which trees JSON can express (RFC 8259).
use Rattle.std.specs.Prelude.{◌≡◌, Bool, true, false, not, ◌&&◌, ◌||◌, List, ◌++◌, ℕ, bytes_eq}
use Rattle.yaml_definitions.specs.model.Tag.{str_tag, float_tag, seq_tag, map_tag}
use Rattle.yaml_definitions.specs.model.Tree.{Tree, Trees, Pairs, scalar, sequence, mapping, end, item, done, entry}
use Rattle.yaml_show_scalar.specs.Numbers.{is_in_words}
use Rattle.yaml_show_scalar.specs.Stops.{Stops}
use Rattle.yaml_show_scalar.specs.Tags.{is_resolved}
use Rattle.yaml_show.specs.declared.unwritten.Unwritten.{Unwritten}
use Rattle.yaml_show.specs.declared.unwritten.Unwritten.TheVariants.{Stopped, NoJson}

-- a str, and a null, a bool, an int or a float that is no `.inf`, `-.inf` or `.nan`
unfoldable pub scalar_has_json : List ℕ → List ℕ → Bool
scalar_has_json g x = bytes_eq g str_tag || (is_resolved g && not (bytes_eq g float_tag && is_in_words x))

-- a str
abbrev pub key_has_json : Tree → Bool
key_has_json (scalar g x) = bytes_eq g str_tag
key_has_json (sequence g ts) = false
key_has_json (mapping g ps) = false

-- each part is one that JSON has, and each key is a str
abbrev mutual
  pub has_json : Tree → Bool
  has_json (scalar g x) = scalar_has_json g x
  has_json (sequence g ts) = bytes_eq g seq_tag && items_have_json ts
  has_json (mapping g ps) = bytes_eq g map_tag && entries_have_json ps

  pub items_have_json : Trees → Bool
  items_have_json end = true
  items_have_json (item t ts) = has_json t && items_have_json ts

  pub entries_have_json : Pairs → Bool
  entries_have_json done = true
  entries_have_json (entry k v ps) = key_has_json k && (has_json v && entries_have_json ps)

-- ---- what is written

-- JSON has it, and the new text is the old one and then this
abbrev pub Says : Bool → List ℕ → List ℕ → List ℕ → Type 0
Says has text old new = (new ≡ old ++ text) × (has ≡ true)

-- What an error says of what was to be written: `NoJson`, that JSON does not have it.
abbrev pub Lacks : Bool → Unwritten → Type 0
Lacks has (Stopped stop) = Unit {0}
Lacks has NoJson = has ≡ false

-- What an error says where a text is to be this one: `Stopped`, why it is not finished.
abbrev pub Overruns : ℕ → List ℕ → Unwritten → Type 0
Overruns limit text (Stopped stop) = Stops limit text stop
Overruns limit text NoJson = Unit {0}
