-- The places of the nodes that a store keeps among all nodes that closed.
use Rattle.std.specs.Prelude.{◌≡◌, ◌⊎◌, ◌<◌, ℕ, List, [], ◌∷◌, ◌++◌, length, Some}
use Rattle.std.specs.List.{slice_get}
use Rattle.yaml_definitions.specs.model.Tree.{Tree}
use Rattle.yaml_tree.specs.Numbers.{Numbers}
use Rattle.yaml_tree_builder.specs.declared.firsts.Firsts.{Firsts}

-- The nodes that stand for the trees have these places among the closed nodes, and so many closed.
pub record Counted (trees : List Tree) (f : Firsts) (closed : List Tree) : Type 0 where
  pub numbers : Numbers trees f.numbers.items closed
  pub count : f.closed ≡ length closed
  pub few : f.closed < 4294967296

-- The tree stands among these already, or comes behind them.
abbrev pub Comes : List Tree → List Tree → Tree → Type 0
Comes before after t = ((after ≡ before) × ((i : ℕ) × (slice_get before i ≡ Some t))) ⊎ (after ≡ before ++ (t ∷ []))
