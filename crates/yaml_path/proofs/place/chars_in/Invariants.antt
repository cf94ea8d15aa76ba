use Rattle.std.proofs.Common.{◌≡◌, ◌≤◌, ◌+◌, ◌-◌}
use Rattle.yaml_path.specs.LineModel.{chars_from}
use Rattle.yaml_path.proofs.place.chars_in.Given as goal

abbrev pub invariant-bytes : goal.invariant-bytes
invariant-bytes l = record {
  counted : l.count ≡ chars_from l.text l.from (l.at - l.from);
  few : l.from + l.count ≤ l.at;
}
