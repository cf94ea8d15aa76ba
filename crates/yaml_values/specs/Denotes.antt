-- The documents that values stand for.
use Rattle.std.specs.Prelude.{◌≡◌, ◌<◌, ◌≤◌, ℕ, List, length, map, take, Some}
use Rattle.std.specs.List.{slice_get, All}
use Rattle.yaml_definitions.specs.model.Tree.{Tree}
use Rattle.yaml_tree.specs.View.{Inside, content, items, entries, inside_tree, InsideBelow}
use Rattle.yaml_tree.specs.Insides.{Held}
use Rattle.yaml_values.specs.Kinds.{scalar_kind, a_sequence, a_mapping}
use Rattle.yaml_values.specs.Ranges.{IsRange, in_turn}
use Rattle.yaml_values.specs.declared.value.Value.{Value}

-- What is inside a value with this tag stands in the texts or among the parts, and the kind is that of the tag and of what is inside.
abbrev pub ShowsInside : (parts texts tag : List ℕ) → (kind start end : ℕ) → Inside → Type 0
ShowsInside parts texts tag kind start end (content x) = (kind ≡ scalar_kind tag) × IsRange texts start end x
ShowsInside parts texts tag kind start end (items is) = (kind ≡ a_sequence) × IsRange parts start end is
ShowsInside parts texts tag kind start end (entries es) = (kind ≡ a_mapping) × IsRange parts start end (in_turn es)

-- The value shows this tag, and this inside.
pub record Shows (parts texts : List ℕ) (v : Value) (n : Held) : Type 0 where
  pub tag : IsRange texts v.tag_start v.tag_end n.0
  pub inside : ShowsInside parts texts n.0 v.kind v.start v.end n.1

-- The tree of the value of this number is made of what it shows, and of the trees of its parts, which have lower numbers.
pub record IsValue (tree : ℕ → Tree) (parts texts : List ℕ) (number : ℕ) (v : Value) : Type 0 where
  pub held : Held
  pub shows : Shows parts texts v held
  pub below : InsideBelow number held.1
  pub made : tree number ≡ inside_tree tree held.0 held.1

-- Each value has its tree, and those of the first parts, so many, are these trees in order.
pub record Denotes (values : List Value) (parts texts : List ℕ) (documents : ℕ) (ts : List Tree) : Type 0 where
  pub tree : ℕ → Tree
  pub each : (i : ℕ) (v : Value) → slice_get values i ≡ Some v → IsValue tree parts texts i v
  pub counted : documents ≤ length parts
  pub within : All (λ r. r < length values) (take documents parts)
  pub are : map tree (take documents parts) ≡ ts
