use Rattle.std.proofs.Common.{take}
use Rattle.yaml_store_rank.specs.TagPlaces.{PlacesAmong}
use Rattle.yaml_store_rank.proofs.places.places.Given as goal

abbrev pub invariant-loop-number : goal.invariant-loop-number
invariant-loop-number l = PlacesAmong l.ordered.items (take l.number l.tags) l.places.items
