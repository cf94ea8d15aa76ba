-- Which fault says what the unfolding of a stream found.
use Rattle.std.specs.Prelude.{◌≡◌, Err, ℕ, ◌<◌, ◌≤◌, List, Some, Ok}
use Rattle.std.specs.List.{slice_get}
use Rattle.yaml_definitions.specs.model.Core.{undefined_alias, cyclic_alias, wrong_kind, bad_content, int_range, float_range}
use Rattle.yaml_definitions.specs.model.Unfold.{Outcome, trees_of}
use Rattle.yaml_definitions.specs.model.Limits.{height_limit}
use Rattle.yaml_definitions.specs.model.Tree.{Tree, height}
use Rattle.yaml_definitions.specs.model.Serial.{Document}
use Rattle.yaml_text.specs.declared.fault.Fault.{Fault}
use Rattle.yaml_text.specs.declared.fault.Fault.TheVariants.{UndefinedAlias, CyclicAlias, WrongKind, BadContent, IntRange, FloatRange, OutOfMemory, TooHigh}

-- this was found, at this event; or memory is refused
abbrev pub RefusesUnfolding : {X : Type 0} → Outcome X → Fault → Type 0
RefusesUnfolding found (UndefinedAlias event) = found ≡ Err (undefined_alias, event)
RefusesUnfolding found (CyclicAlias event) = found ≡ Err (cyclic_alias, event)
RefusesUnfolding found (WrongKind event) = found ≡ Err (wrong_kind, event)
RefusesUnfolding found (BadContent event) = found ≡ Err (bad_content, event)
RefusesUnfolding found (IntRange event) = found ≡ Err (int_range, event)
RefusesUnfolding found (FloatRange event) = found ≡ Err (float_range, event)
RefusesUnfolding found OutOfMemory = Unit {0}
RefusesUnfolding found _ = ⊥

-- the documents unfold, and the tree of this one is the first that is higher than the limit
pub record IsFirstHigh (ds : List Document) (number : ℕ) : Type 0 where
  pub trees : List Tree
  pub unfolded : trees_of ds ≡ Ok trees
  pub tree : Tree
  pub is : slice_get trees number ≡ Some tree
  pub high : height_limit < height tree
  pub before : (k : ℕ) (t : Tree) → k < number → slice_get trees k ≡ Some t → height t ≤ height_limit

-- the documents do not unfold, or one of their trees is too high
abbrev pub RefusesStream : List Document → Fault → Type 0
RefusesStream ds (TooHigh document) = IsFirstHigh ds document
RefusesStream ds fault = RefusesUnfolding (trees_of ds) fault
