-- Events of whole nodes: wherever they stand, they come to the same.
use Rattle.std.specs.Prelude.{◌≡◌, ℕ, ◌+◌, List, ◌++◌, length, Some, Err}
use Rattle.yaml_definitions.specs.model.Tree.{Tree}
use Rattle.yaml_definitions.specs.model.Event.{Event}
use Rattle.yaml_definitions.specs.model.Core.{Cause}
use Rattle.yaml_definitions.specs.model.Unfold.{Table}
use Rattle.yaml_tree.specs.ComposerSteps.{State, steps}
use Rattle.yaml_tree_builder.specs.Reached.{Reaches}

-- more whole nodes where a state stands, the trees of all that closed in them, and the anchors after them
abbrev pub with_nodes : State → List Tree → List Tree → Table → State
with_nodes s ts us table = record { inner = s.inner ++ ts; outer = s.outer; table = table; done = s.done ++ us }

-- From any state with these anchors the events come to the same so many nodes, and touch nothing else.
pub record Adding (n : ℕ) (es : List Event) (anchors : Table) : Type 0 where
  pub nodes : List Tree
  pub inside : List Tree
  pub after : Table
  pub count : length nodes ≡ n
  pub is : (s : State) → s.table ≡ anchors → Reaches es s (with_nodes s nodes inside after)

-- The event that is refused from one state is refused from the other, by the number that it has there.
abbrev pub Alike : List Event → State → State → Type 0
Alike es s t = (at to k : ℕ) (cause : Cause) → steps at es s ≡ Some (Err (cause, at + k)) → steps to es t ≡ Some (Err (cause, to + k))

-- The events are those of so many whole nodes.
pub record AreNodes (n : ℕ) (es : List Event) : Type 0 where
  pub is : (s t : State) → Reaches es s t → Adding n es s.table
  pub alike : (s t : State) → s.table ≡ t.table → Alike es s t
