use Rattle.std.proofs.Common.{◌≡◌, ◌≤◌, ◌+◌}
use Rattle.yaml_path.specs.LineModel.{breaks}
use Rattle.yaml_path.proofs.place.breaks_in.Given as goal

abbrev pub invariant-bytes : goal.invariant-bytes
invariant-bytes l = record {
  counted : breaks l.text l.at ≡ breaks l.text l.from + l.count;
  few : l.from + l.count ≤ l.at;
}
