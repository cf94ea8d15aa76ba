-- Which keys of the nodes of a stream are equal.
use Rattle.std.specs.Prelude.{◌≡◌, ℕ, List, Some, Ok}
use Rattle.std.specs.List.{slice_get}
use Rattle.yaml_definitions.specs.model.Tree.{Tree}
use Rattle.yaml_definitions.specs.model.Serial.{Document}
use Rattle.yaml_definitions.specs.model.Unfold.{trees_of}
use Rattle.yaml_text.specs.declared.fault.Fault.{Fault}
use Rattle.yaml_text.specs.declared.fault.Fault.TheVariants.{EqualKeys, OutOfMemory}
use Rattle.yaml_tree.specs.TreeLists.{AreLow}
use Rattle.yaml_tree.specs.Closing.{stream_trees}
use Rattle.yaml_tree.specs.FirstRepeat.{IsFirstRepeat}
use Rattle.yaml_canon.specs.Comparing.{AreEqualInBoth}

-- Equal keys of a node are told of the one that it stands for first; where that is not known, memory is wanting.
abbrev pub IsInStream : List ℕ → Fault → Fault → Type 0
IsInStream firsts (EqualKeys stored first second) (EqualKeys node i j) = (slice_get firsts stored ≡ Some node) × (i ≡ first) × (j ≡ second)
IsInStream firsts before OutOfMemory = Unit {0}
IsInStream firsts before _ = ⊥

-- The documents unfold, with no tree too high, and of their nodes' trees this is the first mapping with two equal keys.
pub record AreEqual (ds : List Document) (node i j : ℕ) : Type 0 where
  pub trees : List Tree
  pub unfolded : trees_of ds ≡ Ok trees
  pub low : AreLow trees
  pub repeats : IsFirstRepeat (stream_trees ds trees) node i j

-- What it says of the documents that their nodes have no ranks: which keys are equal, or that memory is wanting.
abbrev pub RefusesRanks : List Document → Fault → Type 0
RefusesRanks ds (EqualKeys node i j) = AreEqual ds node i j
RefusesRanks ds OutOfMemory = Unit {0}
RefusesRanks ds _ = ⊥

-- The same of the documents of two streams.
abbrev pub RefusesBothRanks : List Document → List Document → Fault → Type 0
RefusesBothRanks ds es (EqualKeys node i j) = AreEqualInBoth ds es node i j
RefusesBothRanks ds es OutOfMemory = Unit {0}
RefusesBothRanks ds es _ = ⊥
