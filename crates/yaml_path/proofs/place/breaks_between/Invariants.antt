use Rattle.std.proofs.Common.{◌≡◌, ◌≤◌, ◌+◌, ◌-◌}
use Rattle.yaml_path.specs.LineModel.{breaks}
use Rattle.yaml_path.proofs.place.breaks_between.Given as goal

abbrev pub invariant-pieces : goal.invariant-pieces
invariant-pieces l = record {
  counted : breaks l.text l.at ≡ breaks l.text l.from + l.count;
  few : l.from + l.count ≤ l.at;
  within : l.at ≤ l.to;
}

abbrev pub decreases-pieces : goal.decreases-pieces
decreases-pieces l = l.to - l.at
