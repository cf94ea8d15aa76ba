use Rattle.std.proofs.Common.{◌≡◌, false, take}
use Rattle.std.specs.List.{list_any}
use Rattle.yaml_unified.specs.Script.{is_change}
use Rattle.yaml_unified.proofs.places.first_change.Given as goal

abbrev pub invariant-loop-place : goal.invariant-loop-place
invariant-loop-place l = list_any is_change (take l.place l.edits) ≡ false
