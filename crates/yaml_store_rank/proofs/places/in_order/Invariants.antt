use Rattle.std.proofs.Common.{◌≡◌, ◌++◌, take}
use Rattle.std.specs.List.{All}
use Rattle.yaml_store_rank.specs.TagPlaces.{IsFound}
use Rattle.yaml_store_rank.proofs.places.in_order.Given as goal

abbrev pub invariant-loop-number : goal.invariant-loop-number
invariant-loop-number l = All (IsFound l.found) (take l.number l.tags)

abbrev pub invariant-loop-tag : goal.invariant-loop-tag
invariant-loop-tag l = l.ordered.items ++ l.tag-iterator ≡ l.initial.tag-iterator
