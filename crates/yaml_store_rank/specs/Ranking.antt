-- What ranks over the lists of a store say.
use Rattle.std.specs.Prelude.{◌≡◌, ℕ, ◌<◌, List, length, slice_index, Some}
use Rattle.std.specs.List.{slice_get, All}
use Rattle.std.specs.Ordering.{nat_cmp}
use Rattle.yaml_definitions.specs.model.Tree.{height}
use Rattle.yaml_definitions.specs.model.Order.{bytes_cmp}
use Rattle.yaml_definitions.specs.model.Same.{Keyed}
use Rattle.yaml_tree.specs.View.{View, Ranked}
use Rattle.yaml_store.specs.declared.nodes.Node.{Node}
use Rattle.yaml_store.specs.StoreModel.{place_of, inside_of, Within, NodesWithin, Apart}
use Rattle.yaml_store_rank.specs.PartsModel.{PartsRanked}

-- The lists hold the nodes of this view, each with its height, and the places of tags are small and stand as the tags do.
pub record Stored (v : View) (nodes : List Node) (text is : List ℕ) (es : List (ℕ × ℕ)) (places : List ℕ) : Type 0 where
  pub count : v.count ≡ length nodes
  pub few : length nodes < 4294967296
  pub within : NodesWithin (length text) (length is) (length es) (length places) nodes
  pub small : All (λ p. p < 1073741824) places
  pub apart : Apart nodes
  pub inside : (i : ℕ) (s : Node) → slice_get nodes i ≡ Some s → v.inside i ≡ inside_of text is es (place_of s)
  pub high : (i : ℕ) (s : Node) → slice_get nodes i ≡ Some s → s.height ≡ height (v.tree i)
  pub placed : (i j : ℕ) (s t : Node) → slice_get nodes i ≡ Some s → slice_get nodes j ≡ Some t → nat_cmp (slice_index places s.tag) (slice_index places t.tag) ≡ bytes_cmp (v.tag i) (v.tag j)

-- The nodes are ranked, no mapping has two equal keys, each rank has a node that stands for it, places lie in their list, and parts are ranks.
pub record AllRanked (v : View) (nodes : List Node) (text is : List ℕ) (es : List (ℕ × ℕ)) (ranks first : List ℕ) : Type 0 where
  pub long : length ranks ≡ v.count
  pub ranked : Ranked v (slice_index ranks)
  pub keyed : (i : ℕ) → i < v.count → Keyed (v.tree i)
  pub within : (i : ℕ) → i < v.count → slice_index ranks i < length first
  pub firsts : (r i : ℕ) → slice_get first r ≡ Some i → (i < v.count) × (slice_index ranks i ≡ r)
  pub placed : (i : ℕ) (s : Node) → slice_get nodes i ≡ Some s → Within (length text) (length is) (length es) (place_of s)
  pub parts : (i : ℕ) (s : Node) → slice_get nodes i ≡ Some s → PartsRanked (slice_index ranks) (v.inside i) (inside_of text is es (place_of s))
