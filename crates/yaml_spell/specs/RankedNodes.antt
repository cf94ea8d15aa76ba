-- Nodes that are ranked, and what they show.
use Rattle.std.specs.Prelude.{◌≡◌, ◌↔◌, ℕ, ◌<◌, List, map}
use Rattle.std.specs.List.{All}
use Rattle.yaml_definitions.specs.model.Tree.{Tree, Trees, Pairs}
use Rattle.yaml_definitions.specs.model.Same.{Same}
use Rattle.yaml_tree.specs.TreeLists.{trees, pairs}
use Rattle.yaml_tree.specs.View.{InsideBelow, inside_tree}
use Rattle.yaml_tree.specs.Insides.{Held}
use Rattle.yaml_spell.specs.declared.names.Names.{Names}
use Rattle.yaml_spell.specs.NamesView.{ranks_in}

-- The parts of each node are nodes, and two nodes have one rank exactly if their trees are the same.
pub record RanksTell (count : ℕ) (tree : ℕ → Tree) (rank : Tree → ℕ) : Type 0 where
  pub made : (i : ℕ) → i < count → (n : Held) × InsideBelow count n.1 × (tree i ≡ inside_tree tree n.0 n.1)
  pub tell : (i j : ℕ) → i < count → j < count → (rank (tree i) ≡ rank (tree j)) ↔ Same (tree i) (tree j)

-- The ranks stand, and there is a place for what is known of each.
pub record Ready {V : Type 0} (stands : V → Type 0) (count : V → ℕ) (v : V) (n : Names) : Type 0 where
  pub ranked : stands v
  pub long : ranks_in n ≡ count v

-- The ranks stand, and these ids name nodes.
pub record Rooted {V I : Type 0} (stands : V → Type 0) (count : V → ℕ) (number : I → ℕ) (v : V) (roots : List I) : Type 0 where
  pub ranked : stands v
  pub within : All (λ i. number i < count v) roots

module _ {V I : Type 0} (tree : V → ℕ → Tree) (number : I → ℕ) (v : V) where
  -- the tree of an id
  abbrev pub tree_of : I → Tree
  tree_of i = tree v (number i)

  -- the trees of a key and its value
  abbrev pub pair_of : I × I → Tree × Tree
  pair_of p = (tree v (number p.0), tree v (number p.1))

  abbrev pub trees_of : List I → Trees
  trees_of is = trees (map tree_of is)

  abbrev pub pairs_of : List (I × I) → Pairs
  pairs_of es = pairs (map pair_of es)
