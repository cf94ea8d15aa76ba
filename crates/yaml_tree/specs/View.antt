-- Nodes by number, whichever store they lie in.
use Rattle.std.specs.Prelude.{◌≡◌, ◌↔◌, ◌⊎◌, ℕ, ◌+◌, ◌<◌, ◌≤◌, true, List, [], map, length, Some}
use Rattle.std.specs.List.{slice_get, All}
use Rattle.std.specs.Ordering.{nat_cmp}
use Rattle.yaml_definitions.specs.model.Tree.{Tree, scalar, sequence, mapping, height}
use Rattle.yaml_definitions.specs.model.Order.{tree_cmp, arranged, Before}
use Rattle.yaml_definitions.specs.model.Same.{Same, keyed}
use Rattle.yaml_tree.specs.TreeLists.{trees, pairs}

-- what is inside a node: its content, or its parts by number
pub data Inside : Type 0 where
  content : List ℕ → Inside
  items : List ℕ → Inside
  entries : List (ℕ × ℕ) → Inside

abbrev pub items_in : Inside → List ℕ
items_in (items is) = is
items_in _ = []

abbrev pub entries_in : Inside → List (ℕ × ℕ)
entries_in (entries es) = es
entries_in _ = []

-- the tree of a node with this tag, where the numbers stand for these trees
abbrev pub inside_tree : (ℕ → Tree) → List ℕ → Inside → Tree
inside_tree t g (content x) = scalar g x
inside_tree t g (items is) = sequence g (trees (map t is))
inside_tree t g (entries es) = mapping g (pairs (map (λ p. (t p.0, t p.1)) es))

-- the parts have lower numbers
abbrev pub InsideBelow : ℕ → Inside → Type 0
InsideBelow k inside = All (λ i. i < k) (items_in inside) × All (λ p. (p.0 < k) × (p.1 < k)) (entries_in inside)

-- So many nodes, each with its tag, what is inside, and the tree that it stands for.
pub record View : Type 0 where
  pub count : ℕ
  pub tag : ℕ → List ℕ
  pub inside : ℕ → Inside
  pub tree : ℕ → Tree
  pub made : (i : ℕ) → i < count → tree i ≡ inside_tree tree (tag i) (inside i)
  pub below : (i : ℕ) → i < count → InsideBelow i (inside i)

-- a node below this height
abbrev pub Lower : View → ℕ → ℕ → Type 0
Lower v h i = (i < v.count) × (height (v.tree i) < h)

-- The ranks of all nodes below this height are right, and no mapping below it has two equal keys.
pub record Ranks (v : View) (rank : ℕ → ℕ) (h : ℕ) : Type 0 where
  pub agrees : (i j : ℕ) → Lower v h i → Lower v h j → nat_cmp (rank i) (rank j) ≡ tree_cmp (arranged (v.tree i)) (arranged (v.tree j))
  pub keyed : (i : ℕ) → Lower v h i → keyed (v.tree i) ≡ true

-- the keys of these two entries are equal
pub record Repeats (v : View) (number first second : ℕ) : Type 0 where
  pub within : number < v.count
  pub in_order : first < second
  pub earlier : ℕ × ℕ
  pub later : ℕ × ℕ
  pub earlier_is : slice_get (entries_in (v.inside number)) first ≡ Some earlier
  pub later_is : slice_get (entries_in (v.inside number)) second ≡ Some later
  pub equal : Same (v.tree earlier.0) (v.tree later.0)

-- the nodes of this height, in rising order
pub record IsLevel (v : View) (high : ℕ) (level : List ℕ) : Type 0 where
  pub sound : (k i : ℕ) → slice_get level k ≡ Some i → (i < v.count) × (height (v.tree i) ≡ high)
  pub whole : (i : ℕ) → i < v.count → height (v.tree i) ≡ high → (k : ℕ) × (slice_get level k ≡ Some i)
  pub rises : (j k x y : ℕ) → j < k → slice_get level j ≡ Some x → slice_get level k ≡ Some y → x < y

-- the nodes of one level are ranked from `start` on, and no others
pub record LevelDone (v : View) (start : ℕ) (level : List ℕ) (old new : ℕ → ℕ) : Type 0 where
  pub keyed : (k i : ℕ) → slice_get level k ≡ Some i → keyed (v.tree i) ≡ true
  pub others : (i : ℕ) → ((k : ℕ) → slice_get level k ≡ Some i → ⊥) → new i ≡ old i
  pub ordered : (j k p q : ℕ) → slice_get level j ≡ Some p → slice_get level k ≡ Some q → nat_cmp (new p) (new q) ≡ tree_cmp (arranged (v.tree p)) (arranged (v.tree q))
  pub within : (k i : ℕ) → slice_get level k ≡ Some i → (start ≤ new i) × (new i < start + length level)

-- the nodes lower than `high` are ranked, below `start`
pub record Stands (v : View) (rank : ℕ → ℕ) (high start : ℕ) : Type 0 where
  pub settled : Ranks v rank high
  pub below : (i : ℕ) → Lower v high i → rank i < start

-- this node of the level repeats a key, and those before it in the level do not
pub record LevelRepeats (v : View) (level : List ℕ) (node first second : ℕ) : Type 0 where
  pub place : ℕ
  pub is : slice_get level place ≡ Some node
  pub before : (j i : ℕ) → j < place → slice_get level j ≡ Some i → keyed (v.tree i) ≡ true

-- no lower node repeats a key, and none of this height and a lower number
abbrev pub IsFirst : View → ℕ → Type 0
IsFirst v node = (m f s : ℕ) → Repeats v m f s → (height (v.tree node) < height (v.tree m)) ⊎ ((height (v.tree node) ≡ height (v.tree m)) × (node ≤ m))

-- ranks are equal exactly for trees that are the same, and rise in the order of trees
abbrev pub Ranked : View → (ℕ → ℕ) → Type 0
Ranked v rank = (i j : ℕ) → i < v.count → j < v.count → ((rank i ≡ rank j) ↔ Same (v.tree i) (v.tree j)) × ((rank i < rank j) ↔ Before (v.tree i) (v.tree j))
