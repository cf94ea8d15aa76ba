-- Parts overwritten by their ranks.
use Rattle.std.specs.Prelude.{◌≡◌, ℕ, ◌<◌, List, [], length, map, take, slice_index, Some}
use Rattle.std.specs.List.{slice_get, slice_index_or}
use Rattle.std.specs.List.Sorted.{IsPermutation}
use Rattle.yaml_tree.specs.View.{Inside, content, items, entries, entries_in, InsideBelow}
use Rattle.yaml_tree.specs.Places.{IsFirstEqual}
use Rattle.yaml_store.specs.declared.nodes.Node.{Node}
use Rattle.yaml_store.specs.declared.nodes.Place.{Place}
use Rattle.yaml_text.specs.declared.fault.Fault.{Fault}
use Rattle.yaml_text.specs.declared.fault.Fault.TheVariants.{EqualKeys, OutOfMemory}
use Rattle.yaml_store.specs.StoreModel.{place_of, inside_of, PartsWithin, PlacesApart}

abbrev pub two_ranks : (ℕ → ℕ) → ℕ × ℕ → ℕ × ℕ
two_ranks rank p = (rank p.0, rank p.1)

-- each key is above those before it
abbrev pub KeysRise : List (ℕ × ℕ) → Type 0
KeysRise es = (j k : ℕ) (d : ℕ × ℕ) → j < k → k < length es → (slice_index_or es j d).0 < (slice_index_or es k d).0

-- the ranks of the parts; those of a mapping in strictly rising order of keys
abbrev pub PartsRanked : (ℕ → ℕ) → Inside → Inside → Type 0
PartsRanked rank (content x) (content y) = y ≡ x
PartsRanked rank (items is) (items rs) = rs ≡ map rank is
PartsRanked rank (entries es) (entries rs) = IsPermutation (map (two_ranks rank) es) rs × KeysRise rs
PartsRanked rank _ _ = ⊥

-- The parts of a node with these places are overwritten, and nothing else.
pub record PlaceSettled (rank : ℕ → ℕ) (place : Place) (is : List ℕ) (es : List (ℕ × ℕ)) (js : List ℕ) (fs : List (ℕ × ℕ)) : Type 0 where
  pub long : length js ≡ length is
  pub wide : length fs ≡ length es
  pub here : (text : List ℕ) → PartsRanked rank (inside_of text is es place) (inside_of text js fs place)
  pub others : (text : List ℕ) (other : Place) → PlacesApart place other → PartsWithin (length is) (length es) other → inside_of text js fs other ≡ inside_of text is es other

-- numbers that rise
abbrev pub Rising : List ℕ → Type 0
Rising level = (j k x y : ℕ) → j < k → slice_get level j ≡ Some x → slice_get level k ≡ Some y → x < y

-- the places of the nodes' parts lie in lists of these lengths
abbrev pub AllPartsWithin : ℕ → ℕ → List Node → Type 0
AllPartsWithin is es nodes = (i : ℕ) (s : Node) → slice_get nodes i ≡ Some s → PartsWithin is es (place_of s)

-- the parts of the nodes of this level have lower numbers than this
abbrev pub LevelBelow : ℕ → List Node → List ℕ → List ℕ → List (ℕ × ℕ) → Type 0
LevelBelow n nodes level is es = (k i : ℕ) (s : Node) → slice_get level k ≡ Some i → slice_get nodes i ≡ Some s → InsideBelow n (inside_of [] is es (place_of s))

-- The parts of the nodes of one level are overwritten, and no others.
pub record LevelSettled (rank : ℕ → ℕ) (nodes : List Node) (level : List ℕ) (is : List ℕ) (es : List (ℕ × ℕ)) (js : List ℕ) (fs : List (ℕ × ℕ)) : Type 0 where
  pub long : length js ≡ length is
  pub wide : length fs ≡ length es
  pub here : (text : List ℕ) (k i : ℕ) (s : Node) → slice_get level k ≡ Some i → slice_get nodes i ≡ Some s → PartsRanked rank (inside_of text is es (place_of s)) (inside_of text js fs (place_of s))
  pub others : (text : List ℕ) (i : ℕ) (s : Node) → slice_get nodes i ≡ Some s → ((k : ℕ) → slice_get level k ≡ Some i → ⊥) → inside_of text js fs (place_of s) ≡ inside_of text is es (place_of s)

-- no two of these numbers are equal
abbrev pub Differ : List ℕ → Type 0
Differ numbers = (j k : ℕ) → j < k → k < length numbers → slice_index numbers j ≡ slice_index numbers k → ⊥

-- the ranks of a mapping's keys, in the order of its entries
abbrev pub key_ranks : (ℕ → ℕ) → Inside → List ℕ
key_ranks rank inside = map (λ p. rank p.0) (entries_in inside)

-- These are the first two keys of one rank of a node of the level, and the parts of the nodes before it can be overwritten.
pub record LevelEquals (rank : ℕ → ℕ) (nodes : List Node) (level : List ℕ) (is : List ℕ) (es : List (ℕ × ℕ)) (node first second : ℕ) : Type 0 where
  pub place : ℕ
  pub stands : slice_get level place ≡ Some node
  pub stored : Node
  pub stored_is : slice_get nodes node ≡ Some stored
  pub equal : IsFirstEqual (key_ranks rank (inside_of [] is es (place_of stored))) first second
  pub js : List ℕ
  pub fs : List (ℕ × ℕ)
  pub before : LevelSettled rank nodes (take place level) is es js fs

-- A node of the level has two keys of one rank, the first ones are told, and no node before it has two. Memory may be refused at any time.
abbrev pub RefusesLevel : (ℕ → ℕ) → List Node → List ℕ → List ℕ → List (ℕ × ℕ) → Fault → Type 0
RefusesLevel rank nodes level is es (EqualKeys node first second) = LevelEquals rank nodes level is es node first second
RefusesLevel rank nodes level is es OutOfMemory = Unit {0}
RefusesLevel rank nodes level is es _ = ⊥
