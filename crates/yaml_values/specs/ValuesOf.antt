-- The values of what bytes mean.
use Rattle.std.specs.Prelude.{ℕ, List, map}
use Rattle.std.specs.String.{string_bytes}
use Rattle.yaml_definitions.specs.model.Tree.{Tree}
use Rattle.yaml_definitions.specs.model.Order.{arranged}
use Rattle.yaml_canon.specs.Claims.{MeansAlone}
use Rattle.yaml_values.specs.Denotes.{Denotes}
use Rattle.yaml_values.specs.declared.making.Values.{Values}

-- The values stand for these trees, in order; the pairs of each mapping are in order of their keys.
abbrev pub AreValues : List Tree → Values → Type 0
AreValues f v = Denotes v.values.items v.parts.items (string_bytes v.texts) v.documents (map arranged f)

-- The bytes mean a forest alone, and the values stand for its trees.
pub record AreValuesOf (bytes : List ℕ) (v : Values) : Type 0 where
  pub forest : List Tree
  pub accepted : MeansAlone bytes forest
  pub denotes : AreValues forest v
