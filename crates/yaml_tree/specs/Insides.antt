-- The trees that nodes stand for, from what is inside them.
use Rattle.std.specs.Prelude.{◌≡◌, ℕ, List, [], ◌∷◌, ◌++◌, Some}
use Rattle.std.specs.List.{slice_get}
use Rattle.yaml_definitions.specs.model.Tree.{Tree}
use Rattle.yaml_tree.specs.TreeLists.{tree_at}
use Rattle.yaml_tree.specs.View.{Inside, InsideBelow, inside_tree}

-- a node's tag and what is inside it
abbrev pub Held : Type 0
Held = List ℕ × Inside

-- the tree of a node whose parts are among these
abbrev pub held_tree : List Tree → Held → Tree
held_tree ts n = inside_tree (λ i. tree_at ts i) n.0 n.1

abbrev pub more_held : List Tree → List Held → List Tree
more_held ts [] = ts
more_held ts (n ∷ ns) = more_held (ts ++ (held_tree ts n ∷ [])) ns

-- each node's tree, in order
abbrev pub trees_held : List Held → List Tree
trees_held ns = more_held [] ns

-- each node's parts stand before it
abbrev pub HeldBelow : List Held → Type 0
HeldBelow ns = (k : ℕ) (n : Held) → slice_get ns k ≡ Some n → InsideBelow k n.1
