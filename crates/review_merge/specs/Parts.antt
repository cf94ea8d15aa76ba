-- What is shown of the texts of one line.
use Rattle.std.specs.Prelude.{◌≡◌, ◌⊎◌, ◌<◌, ◌-◌, ◌&&◌, ◌==◌, ℕ, suc, Bool, true, false, not, cond, max, nat_lt, bytes_eq, List, [], ◌∷◌, ◌++◌, length, map, sum, drop, codes, Option, Some, None, unwrap_or, String, string_bytes}
use Rattle.std.specs.Option.{option_map}
use Rattle.std.specs.declared.alloc.Global.{Global}
use Rattle.yaml_tree.specs.declared.node.NodeId.{NodeId}
use Rattle.yaml_store_rank.specs.Forests.{Forests}
use Rattle.yaml_diff.specs.Lines.{tree_of}
use Rattle.review_text.specs.Shown.{last_border, shown}
use Rattle.review_text.specs.NodeText.{text_of}

-- the texts of a line by their sides; none where a side has no node
abbrev pub Values : Type 0
Values = List (Option (List ℕ))

abbrev pub values_in : List (Option (String Global)) → Values
values_in texts = map (option_map string_bytes) texts

-- the texts of nodes, of which so many bytes are shown
abbrev pub node_value : Forests → ℕ → Option NodeId → Option (List ℕ)
node_value g room node = option_map (λ it. shown room (text_of (tree_of g it))) node

abbrev pub node_texts : Forests → ℕ → List (Option NodeId) → Values
node_texts g room nodes = map (node_value g room) nodes

-- how many bytes of whole texts may be looked at for all lines together
abbrev pub budget : ℕ
budget = 67108864

-- how many bytes texts have together
abbrev pub bytes_in : Values → ℕ
bytes_in values = sum (map (λ value. length (unwrap_or value [])) values)

-- ---- where texts differ

-- how many bytes two texts have in common before they differ, or one ends
abbrev pub common : List ℕ → List ℕ → ℕ
common [] y = 0
common (b ∷ x) [] = 0
common (b ∷ x) (d ∷ y) = cond (b == d) (suc (common x y)) 0

-- the same of another text, if there is one
abbrev pub common_with : List ℕ → Option (List ℕ) → ℕ
common_with x None = 0
common_with x (Some y) = cond (bytes_eq x y) 0 (common x y)

-- the last place at which one of the other texts first differs from this one
abbrev pub last_difference : List ℕ → Values → ℕ
last_difference x [] = 0
last_difference x (value ∷ values) = max (common_with x value) (last_difference x values)

-- the text of the base, or no byte
abbrev pub base_text : Values → List ℕ
base_text (Some x ∷ values) = x
base_text _ = []

-- where a text first differs from the base's; if it is the base's, where the last of the others does
abbrev pub own_place : Values → List ℕ → ℕ
own_place wholes x = cond (bytes_eq (base_text wholes) x) (last_difference x wholes) (common (base_text wholes) x)

-- ---- a part of a text

-- 20 bytes before a place; 0 where that is one of the first 40 bytes, and in a text of at most 60
abbrev pub lead : ℕ → ℕ → ℕ
lead place len = cond (nat_lt 60 len && nat_lt 39 place) (place - 20) 0

-- where a character begins there
abbrev pub part_start : ℕ → List ℕ → ℕ
part_start place text = last_border text (lead place (length text))

-- up to 60 bytes from there, and dots on either side for what is left out
abbrev pub part_of : ℕ → List ℕ → List ℕ
part_of place text = cond (nat_lt 0 (part_start place text)) (codes "...") [] ++ shown 60 (drop (part_start place text) text)

-- ---- texts that look alike

-- another text, of which the same part would be shown
abbrev pub looks_like : Values → List ℕ → List ℕ → Bool
looks_like wholes x y = not (bytes_eq x y) && bytes_eq (part_of (own_place wholes x) x) (part_of (own_place wholes y) y)

-- The place near which a text is shown behind some others: its own, or where it first differs from the first of these that it looks like.
abbrev pub place_behind : (wholes before : Values) → List ℕ → ℕ
place_behind wholes [] x = own_place wholes x
place_behind wholes (None ∷ before) x = place_behind wholes before x
place_behind wholes (Some y ∷ before) x = cond (looks_like wholes x y) (common x y) (place_behind wholes before x)

-- the part of one text behind others, and those of texts one behind another
abbrev pub part_behind : (wholes before : Values) → List ℕ → List ℕ
part_behind wholes before x = part_of (place_behind wholes before x) x

abbrev pub parts_behind : (wholes before values : Values) → Values
parts_behind wholes before [] = []
parts_behind wholes before (value ∷ values) = option_map (part_behind wholes before) value ∷ parts_behind wholes (before ++ value ∷ []) values

-- ---- what a line has

module _ (g : Forests) (nodes : List (Option NodeId)) (left after : ℕ) (values : Values) where
  -- The first 60 bytes of each text, where no more whole texts may be looked at.
  pub record ShowsFronts : Type 0 where
    pub none_left : left ≡ 0
    pub are : values ≡ node_texts g 60 nodes
    pub spent : after ≡ left

  -- The part of each text by which it differs. The bytes of the whole texts are taken from those that may be looked at.
  pub record ShowsParts : Type 0 where
    pub some_left : 0 < left
    pub are : values ≡ parts_behind (node_texts g 65536 nodes) [] (node_texts g 65536 nodes)
    pub spent : after ≡ left - bytes_in (node_texts g 65536 nodes)

  -- whole texts where they are asked for, or else one of these
  abbrev pub ShowsValues : Bool → Type 0
  ShowsValues true = (values ≡ node_texts g 65536 nodes) × (after ≡ left)
  ShowsValues false = ShowsFronts ⊎ ShowsParts
