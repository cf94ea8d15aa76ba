-- The laws of paths.
use Rattle.std.specs.Prelude.{◌≡◌, ◌⊎◌, ◌++◌, Option, Some}
use Rattle.yaml_definitions.specs.model.Tree.{Tree}
use Rattle.yaml_definitions.specs.model.Same.{Same, Keyed}
use Rattle.yaml_path.specs.Path.{Path, see, Differs, DiffersFirst}

-- what `Differs` says step by step is what `DiffersFirst` says
abbrev pub DiffersIsFirst : Type 0
DiffersIsFirst = (t u : Option Tree) (q : Path) → (Differs q t u → DiffersFirst t u q) × (DiffersFirst t u q → Differs q t u)

-- trees with no equal keys are the same exactly if they differ nowhere
abbrev pub SameIsNowhere : Type 0
SameIsNowhere = (t u : Tree) → Keyed t → Keyed u → (Same t u → (q : Path) → Differs q (Some t) (Some u) → ⊥) × (((q : Path) → Differs q (Some t) (Some u) → ⊥) → Same t u)

-- and exactly if they show the same at each path
abbrev pub SameIsSeen : Type 0
SameIsSeen = (t u : Tree) → Keyed t → Keyed u → (Same t u → (p : Path) → see (Some t) p ≡ see (Some u) p) × (((p : Path) → see (Some t) p ≡ see (Some u) p) → Same t u)

-- two trees show the same at a path, or differ first at it or above it
abbrev pub ElseSeenAlike : Type 0
ElseSeenAlike = (t u : Option Tree) (p : Path) → (see t p ≡ see u p) ⊎ ((q r : Path) × (p ≡ q ++ r) × Differs q t u)
