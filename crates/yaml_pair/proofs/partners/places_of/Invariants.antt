use Rattle.std.specs.BTreeMap.{get}
use Rattle.yaml_pair.specs.Named.{Name, name_cmp, is_one, Stands}
use Rattle.yaml_pair.proofs.partners.places_of.Given as goal

abbrev pub invariant-loop-place : goal.invariant-loop-place
invariant-loop-place l = (q : Name) → Stands is_one l.names l.place q (get name_cmp l.places q)
