use Rattle.std.proofs.Common.{◌≡◌, ◌≤◌, ◌+◌, ◌-◌}
use Rattle.yaml_path.specs.LineModel.{chars_from}
use Rattle.yaml_path.proofs.place.chars_between.Given as goal

abbrev pub invariant-pieces : goal.invariant-pieces
invariant-pieces l = record {
  counted : l.count ≡ chars_from l.text l.from (l.at - l.from);
  few : l.from + l.count ≤ l.at;
  within : l.at ≤ l.to;
}

abbrev pub decreases-pieces : goal.decreases-pieces
decreases-pieces l = l.to - l.at
