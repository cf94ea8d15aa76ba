-- The laws of equal keys: of nodes, of a store's nodes, and of the graph of a stream.
use Rattle.std.specs.Prelude.{◌≡◌, ◌↔◌, ◌⊎◌, ◌<◌, ◌≤◌, ℕ, List, [], ◌∷◌, ◌++◌, length, Some, Ok}
use Rattle.std.specs.List.{slice_get}
use Rattle.yaml_definitions.specs.model.Tree.{Tree}
use Rattle.yaml_definitions.specs.model.Serial.{Document}
use Rattle.yaml_definitions.specs.model.Unfold.{trees_of}
use Rattle.yaml_text.specs.declared.fault.Fault.TheVariants.{EqualKeys}
use Rattle.yaml_tree.specs.TreeLists.{tree_at}
use Rattle.yaml_tree.specs.Closing.{stream_trees}
use Rattle.yaml_tree.specs.View.{View, Repeats, IsFirst}
use Rattle.yaml_tree.specs.Keys.{TreeRepeats}
use Rattle.yaml_tree.specs.Numbers.{Numbers}
use Rattle.yaml_tree.specs.FirstRepeat.{IsFirstRepeat}
use Rattle.yaml_graph.specs.GraphView.{nodes_of, graph_trees, tree}
use Rattle.yaml_graph.specs.JoinModel.{Joined}
use Rattle.yaml_graph.specs.Composed.{Composed}
use Rattle.yaml_graph.specs.declared.graph.Graph.{Graph}
use Rattle.yaml_rank.specs.RankModel.{EqualAt}
use Rattle.yaml_rank.specs.RanksView.{RefusesGraph}

-- A node of a graph repeats a key exactly if its tree does.
abbrev pub GraphRepeatsByTree : Type 0
GraphRepeatsByTree = (g : Graph) (k first second : ℕ) → k < length (nodes_of g) → EqualAt g k first second ↔ TreeRepeats (tree g k) first second

-- So does a node of any view.
abbrev pub ViewRepeatsByTree : Type 0
ViewRepeatsByTree = (v : View) (n first second : ℕ) → n < v.count → Repeats v n first second ↔ TreeRepeats (v.tree n) first second

-- no two equal keys of the node come before these
abbrev pub NoneBefore : View → ℕ → ℕ → ℕ → Type 0
NoneBefore v n first second = (f s : ℕ) → Repeats v n f s → (second < s) ⊎ ((second ≡ s) × (first ≤ f))

-- The first equal keys of a view whose nodes have numbers among the nodes that closed are those of the closed ones, at the node's number.
abbrev pub FirstRepeatIsStreams : Type 0
FirstRepeatIsStreams = (v : View) (trees : List Tree) (numbers : List ℕ) (closed : List Tree) → length trees ≡ v.count → ((i : ℕ) → i < v.count → v.tree i ≡ tree_at trees i) → Numbers trees numbers closed
    → (n k first second : ℕ) → slice_get numbers n ≡ Some k → Repeats v n first second → NoneBefore v n first second → IsFirst v n → IsFirstRepeat closed k first second

-- No trees have two mappings that are the first with equal keys, nor has a mapping two first pairs of them.
abbrev pub FirstRepeatIsOne : Type 0
FirstRepeatIsOne = (closed : List Tree) (n f s m g t : ℕ) → IsFirstRepeat closed n f s → IsFirstRepeat closed m g t → (n ≡ m) × (f ≡ g) × (s ≡ t)

-- Ranks of a graph are refused for keys exactly where these are the first equal ones of its nodes' trees.
abbrev pub GraphRefusesFirst : Type 0
GraphRefusesFirst = (g : Graph) (n i j : ℕ) → RefusesGraph g (EqualKeys n i j) ↔ IsFirstRepeat (graph_trees g) n i j

-- Of a stream's graph they are refused exactly for the first equal keys of the stream's nodes, as they close.
abbrev pub StreamRefusesFirst : Type 0
StreamRefusesFirst = (ds : List Document) (ts : List Tree) (g : Graph) → trees_of ds ≡ Ok ts → Composed ds g → (n i j : ℕ) → RefusesGraph g (EqualKeys n i j) ↔ IsFirstRepeat (stream_trees ds ts) n i j

-- Of the joined graphs of two streams, exactly for those of both streams' nodes, one stream after the other.
abbrev pub JoinedRefusesFirst : Type 0
JoinedRefusesFirst = (ds es : List Document) (ts us : List Tree) (a b both : Graph) → trees_of ds ≡ Ok ts → trees_of es ≡ Ok us → Composed ds a → Composed es b → Joined a b both
    → (n i j : ℕ) → RefusesGraph both (EqualKeys n i j) ↔ IsFirstRepeat (stream_trees ds ts ++ stream_trees es us) n i j

-- A graph of a stream has so many nodes as close in it.
abbrev pub StreamCounts : Type 0
StreamCounts = (ds : List Document) (ts : List Tree) (g : Graph) → trees_of ds ≡ Ok ts → Composed ds g → length (nodes_of g) ≡ length (stream_trees ds ts)

-- A node closes that one of the store's nodes stands for: the numbers stay.
abbrev pub NumbersStay : Type 0
NumbersStay = (trees : List Tree) (numbers : List ℕ) (closed : List Tree) → Numbers trees numbers closed → (i : ℕ) (t : Tree) → slice_get trees i ≡ Some t → Numbers trees numbers (closed ++ (t ∷ []))

-- A node closes for which a new one stands: that one's number is the closed node's place.
abbrev pub NumbersGrow : Type 0
NumbersGrow = (trees : List Tree) (numbers : List ℕ) (closed : List Tree) → Numbers trees numbers closed → (t : Tree) → Numbers (trees ++ (t ∷ [])) (numbers ++ (length closed ∷ [])) (closed ++ (t ∷ []))
