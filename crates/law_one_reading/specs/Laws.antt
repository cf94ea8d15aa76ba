-- Bytes are read in one way at most, and mean one forest at most.
use Rattle.std.specs.Prelude.{◌≡◌, ℕ, List}
use Rattle.yaml_definitions.specs.model.Tree.{Tree}
use Rattle.yaml_definitions.specs.model.Event.{Event}
use Rattle.yaml_definitions.specs.model.Means.{Means}
use Rattle.yaml_definitions.specs.grammar.Reading.{Reads}

-- the productions give bytes one list of events at most
abbrev pub OneReading : Type 0
OneReading = (bytes : List ℕ) (es fs : List Event) → Reads bytes es → Reads bytes fs → es ≡ fs

-- so two forests that the same bytes mean are equal, tree by tree and in the order of their entries
abbrev pub OneMeaning : Type 0
OneMeaning = (bytes : List ℕ) (f g : List Tree) → Means bytes f → Means bytes g → f ≡ g
