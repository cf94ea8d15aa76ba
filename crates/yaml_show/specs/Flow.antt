-- Trees on one line, in flow style (YAML 1.2.2, 7.4). The entries of each mapping stand in order: these are trees that are arranged.
use Rattle.std.specs.Prelude.{ℕ, Bool, true, false, ◌||◌, ◌&&◌, cond, nat_le, List, [], ◌∷◌, ◌++◌, length, codes}
use Rattle.std.specs.Str.{chars}
use Rattle.yaml_definitions.specs.model.Tag.{seq_tag, map_tag}
use Rattle.yaml_definitions.specs.model.Tree.{Tree, Trees, Pairs, scalar, sequence, mapping, end, item, done, entry}
use Rattle.yaml_show_scalar.specs.Scalars.{scalar_text}
use Rattle.yaml_show_scalar.specs.Tags.{tag_before}
use Rattle.yaml_show_scalar.specs.declared.scalar.Quotes.TheVariants.{WhereNeeded, Always}

-- a scalar of so few bytes that its text is no longer than a key's may be, whatever escapes it needs
unfoldable pub is_short : Tree → Bool
is_short (scalar g x) = nat_le (length x) 200 && nat_le (length g) 64
is_short _ = false

-- A key without `? ` before it: one in a key of a block mapping, which is short as a whole, or a short scalar.
abbrev pub is_simple : Bool → Tree → Bool
is_simple in_key t = in_key || is_short t

-- what stands before a key: `? `, unless it is simple
abbrev pub mark : Bool → List ℕ
mark is_simple = cond is_simple [] (codes "? ")

-- what stands between a key and its value
abbrev pub colon : Bool → List ℕ
colon is_simple = cond is_simple (codes ": ") (codes " : ")

-- A tree on one line, in a key of a block mapping or elsewhere. Each string in it is quoted.
unfoldable mutual
  pub flow_text : Bool → Tree → List ℕ
  flow_text in_key (scalar g x) = scalar_text Always g x
  flow_text in_key (sequence g ts) = tag_before g seq_tag ++ (91 ∷ flow_items in_key [] ts)
  flow_text in_key (mapping g ps) = tag_before g map_tag ++ (123 ∷ flow_entries in_key [] ps)

  -- the items, each after a separator, and the bracket
  pub flow_items : Bool → List ℕ → Trees → List ℕ
  flow_items in_key before end = 93 ∷ []
  flow_items in_key before (item t ts) = before ++ (flow_text in_key t ++ flow_items in_key (44 ∷ 32 ∷ []) ts)

  -- the entries, each after a separator, and the brace
  pub flow_entries : Bool → List ℕ → Pairs → List ℕ
  flow_entries in_key before done = 125 ∷ []
  flow_entries in_key before (entry k v ps) =
      before ++ (mark (is_simple in_key k) ++ (flow_text in_key k ++ (colon (is_simple in_key k) ++ (flow_text in_key v ++ flow_entries in_key (44 ∷ 32 ∷ []) ps))))

-- a key of a block mapping, without its `:`
unfoldable pub key_text : Tree → List ℕ
key_text (scalar g x) = scalar_text WhereNeeded g x
key_text (sequence g ts) = flow_text true (sequence g ts) ++ (32 ∷ [])
key_text (mapping g ps) = flow_text true (mapping g ps) ++ (32 ∷ [])

-- it has at most 1,023 characters
unfoldable pub fits : Tree → Bool
fits t = is_short t || nat_le (length (chars (key_text t))) 1023

abbrev pub all_fit : Pairs → Bool
all_fit done = true
all_fit (entry k v ps) = fits k && all_fit ps
