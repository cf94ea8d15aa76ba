use Rattle.std.proofs.Common.{◌≡◌, ◌≤◌, length, map, take}
use Rattle.std.specs.List.{All}
use Rattle.yaml_path.specs.LineModel.{IsPlace}
use Rattle.review_places.specs.Told.{IsTold}
use Rattle.review_places.proofs.places.places.Given as goal

abbrev pub invariant-offsets : goal.invariant-offsets
invariant-offsets l = record {
  told : All (IsTold l.text l.fn.offsets.items) l.list.items;
  here : IsPlace l.text l.at l.place.line l.place.column;
  numbers : map (λ told. told.0) l.list.items ≡ map (λ given. given.1) (take l.offset-index l.offset-items);
  within : l.at ≤ length l.text;
}
