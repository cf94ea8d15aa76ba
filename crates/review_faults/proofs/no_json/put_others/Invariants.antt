use Rattle.std.proofs.Common.{◌≤◌, length}
use Rattle.std.specs.Prelude.{string_bytes}
use Rattle.yaml_path.specs.LineModel.{IsPlace}
use Rattle.review_faults.specs.NoJson.{AddsPieces}
use Rattle.review_faults.proofs.no_json.put_others.Given as goal

abbrev pub invariant-others : goal.invariant-others
invariant-others l = record {
  adds : AddsPieces l.name l.text (string_bytes l.fn.out) (string_bytes l.out);
  here : IsPlace l.text l.at l.place.line l.place.column;
  within : l.at ≤ length l.text;
}
