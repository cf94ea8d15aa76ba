-- What the lists of a store hold.
use Rattle.std.specs.Prelude.{◌≡◌, ◌⊎◌, ℕ, ◌<◌, ◌≤◌, Bool, true, false, List, [], map, Option, Some, None}
use Rattle.std.specs.List.{slice_get, slice_index_or, slice_range}
use Rattle.yaml_definitions.specs.model.Tree.{Tree}
use Rattle.yaml_tree.specs.TreeLists.{tree_at, cut}
use Rattle.yaml_tree.specs.View.{Inside, content, items, entries, InsideBelow}
use Rattle.yaml_tree.specs.Insides.{Held, trees_held}
use Rattle.yaml_store.specs.declared.nodes.Span.{Span}
use Rattle.yaml_store.specs.declared.nodes.Node.{Node}
use Rattle.yaml_store.specs.declared.nodes.Kind.{Kind}
use Rattle.yaml_store.specs.declared.nodes.Kind.TheVariants as kinds
use Rattle.yaml_store.specs.declared.nodes.Collection.{Collection}
use Rattle.yaml_store.specs.declared.nodes.Collection.TheVariants as collections
use Rattle.yaml_store.specs.declared.nodes.Place.{Place}
use Rattle.yaml_store.specs.declared.nodes.Place.TheVariants.{Scalar, Sequence, Mapping}

-- what a node of this kind is, and where its content or its parts stand
abbrev pub place : Kind → Span → Place
place kinds.Scalar s = Scalar s
place kinds.Sequence s = Sequence s
place kinds.Mapping s = Mapping s

abbrev pub place_of : Node → Place
place_of n = place n.kind n.span

abbrev pub kind_of : Collection → Kind
kind_of collections.Sequence = kinds.Sequence
kind_of collections.Mapping = kinds.Mapping

abbrev pub is_mapping : Collection → Bool
is_mapping collections.Sequence = false
is_mapping collections.Mapping = true

-- the height of the node of this number
abbrev pub node_height : Option Node → ℕ
node_height (Some s) = s.height
node_height None = 0

abbrev pub height_at : List Node → ℕ → ℕ
height_at nodes i = node_height (slice_get nodes i)

-- what is inside a node of this place
abbrev pub inside_of : List ℕ → List ℕ → List (ℕ × ℕ) → Place → Inside
inside_of text is es (Scalar s) = content (slice_range text s.start s.end)
inside_of text is es (Sequence s) = items (slice_range is s.start s.end)
inside_of text is es (Mapping s) = entries (slice_range es s.start s.end)

abbrev pub SpanWithin : ℕ → Span → Type 0
SpanWithin n s = (s.start ≤ s.end) × (s.end ≤ n)

-- the places of the node lie in their list
abbrev pub Within : ℕ → ℕ → ℕ → Place → Type 0
Within text is es (Scalar s) = SpanWithin text s
Within text is es (Sequence s) = SpanWithin is s
Within text is es (Mapping s) = SpanWithin es s

-- the places of each node lie in their list, and its tag is among so many
abbrev pub NodesWithin : ℕ → ℕ → ℕ → ℕ → List Node → Type 0
NodesWithin text is es tags nodes = (i : ℕ) (s : Node) → slice_get nodes i ≡ Some s → Within text is es (place_of s) × (s.tag < tags)

-- the places of the node's parts lie in their list
abbrev pub PartsWithin : ℕ → ℕ → Place → Type 0
PartsWithin is es (Scalar s) = Unit {0}
PartsWithin is es (Sequence s) = SpanWithin is s
PartsWithin is es (Mapping s) = SpanWithin es s

abbrev pub SpansApart : Span → Span → Type 0
SpansApart s t = (s.end ≤ t.start) ⊎ (t.end ≤ s.start)

-- parts of the nodes do not meet
abbrev pub PlacesApart : Place → Place → Type 0
PlacesApart (Sequence s) (Sequence t) = SpansApart s t
PlacesApart (Mapping s) (Mapping t) = SpansApart s t
PlacesApart _ _ = Unit {0}

-- the parts of two nodes do not meet
abbrev pub Apart : List Node → Type 0
Apart nodes = (i j : ℕ) (s t : Node) → (i ≡ j → ⊥) → slice_get nodes i ≡ Some s → slice_get nodes j ≡ Some t → PlacesApart (place_of s) (place_of t)

-- ---- the lists as a whole

-- the tag of this number
abbrev pub tag_at : List (List ℕ) → ℕ → List ℕ
tag_at tags i = slice_index_or tags i []

abbrev pub parts_at : List Tree → List ℕ → List Tree
parts_at ts parts = map (tree_at ts) parts

-- a node's tag and what is inside it
abbrev pub node_held : List ℕ → List ℕ → List (ℕ × ℕ) → List (List ℕ) → Node → Held
node_held text is es tags s = (tag_at tags s.tag, inside_of text is es (place_of s))

-- each node's tree, in order
abbrev pub trees_stored : List Node → List ℕ → List ℕ → List (ℕ × ℕ) → List (List ℕ) → List Tree
trees_stored nodes text is es tags = trees_held (map (node_held text is es tags) nodes)

abbrev pub start_of : Place → ℕ
start_of (Scalar s) = s.start
start_of (Sequence s) = s.start
start_of (Mapping s) = s.start

abbrev pub end_of : Place → ℕ
end_of (Scalar s) = s.end
end_of (Sequence s) = s.end
end_of (Mapping s) = s.end

-- the length of the list that the node's places are of
abbrev pub room_of : ℕ → ℕ → ℕ → Place → ℕ
room_of text is es (Scalar s) = text
room_of text is es (Sequence s) = is
room_of text is es (Mapping s) = es

-- the parts of both nodes stand in one list
abbrev pub share : Place → Place → Bool
share (Sequence s) (Sequence t) = true
share (Mapping s) (Mapping t) = true
share _ _ = false

-- the places of each node lie in their list, and its tag is among so many
abbrev pub AllPlaced : ℕ → ℕ → ℕ → ℕ → List Node → Type 0
AllPlaced text is es tags nodes = (i : ℕ) (s : Node) → slice_get nodes i ≡ Some s → (start_of (place_of s) ≤ end_of (place_of s)) × (end_of (place_of s) ≤ room_of text is es (place_of s)) × (s.tag < tags)

-- each node's parts stand behind those of the nodes before it
abbrev pub PartsInOrder : List Node → Type 0
PartsInOrder nodes = (i j : ℕ) (s t : Node) → i < j → slice_get nodes i ≡ Some s → slice_get nodes j ≡ Some t → share (place_of s) (place_of t) ≡ true → end_of (place_of s) ≤ start_of (place_of t)

-- the parts of each node have lower numbers
abbrev pub AllBelow : List Node → List ℕ → List (ℕ × ℕ) → Type 0
AllBelow nodes is es = (i : ℕ) (s : Node) → slice_get nodes i ≡ Some s → InsideBelow i (inside_of [] is es (place_of s))

-- the heights are those of the trees, cut just above the limit
abbrev pub AllMeasured : List Node → List Tree → Type 0
AllMeasured nodes ts = (i : ℕ) (s : Node) → slice_get nodes i ≡ Some s → s.height ≡ cut (tree_at ts i)
