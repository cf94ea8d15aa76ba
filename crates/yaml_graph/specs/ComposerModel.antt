-- What the composer holds, as plain values.
use Rattle.std.specs.Prelude.{◌≡◌, ◌<◌, ◌≤◌, ℕ, slice_index, Bool, true, false, List, [], ◌∷◌, Option, Some, None, Ok, reverse, map, length}
use Rattle.std.specs.Global.{Global}
use Rattle.std.specs.List.{slice_get}
use Rattle.std.specs.Cow.{cow_str_bytes}
use Rattle.std.specs.declared.borrow.CowStr.{CowStr}
use Rattle.std.specs.Option.{option_map}
use Rattle.yaml_definitions.specs.model.Limits.{height_limit}
use Rattle.yaml_definitions.specs.model.Tree.{Tree, a_sequence, a_mapping}
use Rattle.yaml_definitions.specs.model.Event.{Anchor}
use Rattle.yaml_definitions.specs.model.Unfold.{Outcome, Table}
use Rattle.yaml_tree.specs.Anchors.{Names, place_named, last_place, names_of, Placed}
use Rattle.yaml_tree.specs.TreeLists.{cut}
use Rattle.yaml_tree.specs.ComposerSteps as machine
use Rattle.yaml_tree.specs.declared.node.NodeId.{NodeId}
use Rattle.yaml_graph.specs.GraphModel.{kind_tree, trees_in, trees_at, PartsBelow, Grounded}
use Rattle.yaml_graph.specs.declared.composer.Composer.{Composer}
use Rattle.yaml_graph.specs.declared.composer.Open.{Open}
use Rattle.yaml_graph.specs.declared.node.Node.{Node}
use Rattle.yaml_graph.specs.declared.node.NodeKind.{NodeKind}
use Rattle.yaml_graph.specs.declared.tag.Collection.{Collection}
use Rattle.yaml_graph.specs.declared.tag.Collection.TheVariants as collections

abbrev pub is_mapping : Collection → Bool
is_mapping collections.Sequence = false
is_mapping collections.Mapping = true

-- the place of the kind
abbrev pub kind_number : Collection → ℕ
kind_number collections.Sequence = a_sequence
kind_number collections.Mapping = a_mapping

abbrev pub anchor_view : Option (CowStr Global) → Anchor
anchor_view anchor = option_map cow_str_bytes anchor

-- the tree stands at this place
abbrev pub TreeStands : List Tree → NodeId → Tree → Type 0
TreeStands ts i t = slice_get ts i.0 ≡ Some t

abbrev pub AllStand : List Tree → List NodeId → List Tree → Type 0
AllStand ts [] [] = Unit {0}
AllStand ts (i ∷ places) (u ∷ us) = TreeStands ts i u × AllStand ts places us
AllStand ts _ _ = ⊥

abbrev pub SlotStands : List Tree → Option NodeId → Option Tree → Type 0
SlotStands ts None None = Unit {0}
SlotStands ts (Some i) (Some u) = TreeStands ts i u
SlotStands ts _ _ = ⊥

abbrev pub TableStands : List Tree → List (Option NodeId) → Table → Type 0
TableStands ts [] [] = Unit {0}
TableStands ts (a ∷ anchored) (o ∷ table) = SlotStands ts a o.1 × TableStands ts anchored table
TableStands ts _ _ = ⊥

pub record OpenStands (ts : List Tree) (names : List (List ℕ)) (o : Open) (p : machine.Open) : Type 0 where
  pub place : Placed names o.place p.anchor p.slot
  pub tag : cow_str_bytes o.tag ≡ p.tag
  pub before : AllStand ts o.before.items p.before

abbrev pub OpensStand : List Tree → List (List ℕ) → List Open → List machine.Open → Type 0
OpensStand ts names [] [] = Unit {0}
OpensStand ts names (o ∷ opens) (p ∷ ps) = OpenStands ts names o p × OpensStand ts names opens ps
OpensStand ts names _ _ = ⊥

-- with any tag the kind gives the collection of these parts, all of them among these nodes
pub record Collects (nodes : List Node) (mapped : Bool) (places : List NodeId) (kind : NodeKind) : Type 0 where
  pub below : PartsBelow (length nodes) kind
  pub tree : (g : List ℕ) → kind_tree (trees_in nodes) g kind ≡ machine.collection_from mapped g (trees_at (trees_in nodes) places)

-- these lists and this map are the state
pub record Held (nodes : List Node) (heights : List ℕ) (names : Names) (anchored : List (Option NodeId)) (outer : List Open) (inner : List NodeId) (s : machine.State) : Type 0 where
  pub grounded : Grounded nodes
  pub measured : heights ≡ map cut (trees_in nodes)
  pub inside : AllStand (trees_in nodes) inner s.inner
  pub outside : OpensStand (trees_in nodes) (names_of s.table) (reverse outer) s.outer
  pub anchors : TableStands (trees_in nodes) anchored s.table
  pub named : (name : List ℕ) → place_named names name ≡ last_place name (names_of s.table)
  pub done : trees_in nodes ≡ s.done

abbrev pub Holds : Composer → machine.State → Type 0
Holds c s = Held c.nodes.items c.heights.items c.names c.anchored.items c.outer.items c.inner.items s

-- the composer holds the state that was found
pub record Reached (found : Outcome machine.State) (c : Composer) : Type 0 where
  pub state : machine.State
  pub is : found ≡ Ok state
  pub holds : Holds c state

-- the height at this place is none that is cut
abbrev pub IsBelow : List ℕ → NodeId → Type 0
IsBelow heights i = slice_index heights i.0 ≤ height_limit

abbrev pub AllBelow : List ℕ → List NodeId → Type 0
AllBelow heights roots = (k : ℕ) (i : NodeId) → slice_get roots k ≡ Some i → IsBelow heights i

-- the first place whose height is cut
pub record IsFirstAbove (heights : List ℕ) (roots : List NodeId) (number : ℕ) : Type 0 where
  pub root : NodeId
  pub is : slice_get roots number ≡ Some root
  pub above : height_limit < slice_index heights root.0
  pub before : (k : ℕ) (i : NodeId) → k < number → slice_get roots k ≡ Some i → IsBelow heights i
