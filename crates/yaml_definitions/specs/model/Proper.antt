-- Trees that the canonical text is promised for.
use Rattle.std.specs.Prelude.{◌≡◌, ◌≤◌, true, List, [], ◌∷◌, length, Ok}
use Rattle.std.specs.Str.{is_utf8}
use Rattle.yaml_definitions.specs.model.Limits.{text_limit, height_limit}
use Rattle.yaml_definitions.specs.model.Tag.{IsTag}
use Rattle.yaml_definitions.specs.model.Tree.{Tree, Trees, Pairs, scalar, sequence, mapping, end, item, done, entry, height, a_sequence, a_mapping}
use Rattle.yaml_definitions.specs.model.Same.{Keyed}
use Rattle.yaml_definitions.specs.model.Event.{full, double}
use Rattle.yaml_definitions.specs.model.Core.{resolve, collection_tag}
use Rattle.yaml_definitions.specs.canonical.Spell.{spell_bytes}

-- A core tag stands on its own kind, and the content under null, bool, int and float is canonical and in range:
-- it is what the text itself gives under that tag.
unfoldable mutual
  pub IsProper : Tree → Type 0
  IsProper (scalar g x) = IsTag g × (is_utf8 x ≡ true) × (resolve (full g) double x ≡ Ok (g, x))
  IsProper (sequence g ts) = IsTag g × (collection_tag a_sequence (full g) ≡ Ok g) × AreProper ts
  IsProper (mapping g ps) = IsTag g × (collection_tag a_mapping (full g) ≡ Ok g) × ArePairsProper ps

  pub AreProper : Trees → Type 0
  AreProper end = Unit {0}
  AreProper (item t ts) = IsProper t × AreProper ts

  pub ArePairsProper : Pairs → Type 0
  ArePairsProper done = Unit {0}
  ArePairsProper (entry k v ps) = IsProper k × IsProper v × ArePairsProper ps

pub record IsAdmittedTree (t : Tree) : Type 0 where
  pub proper : IsProper t
  pub keyed : Keyed t
  pub low : height t ≤ height_limit

abbrev pub AreAdmitted : List Tree → Type 0
AreAdmitted [] = Unit {0}
AreAdmitted (t ∷ f) = IsAdmittedTree t × AreAdmitted f

pub record Admitted (f : List Tree) : Type 0 where
  pub trees : AreAdmitted f
  pub fits : length (spell_bytes f) ≤ text_limit
