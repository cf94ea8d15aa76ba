use Rattle.std.proofs.Common.{◌≤◌, length, map, take}
use Rattle.yaml_path.specs.LineModel.{IsPlace}
use Rattle.yaml_text.specs.EventModel.{event_of}
use Rattle.review_faults.specs.Warned.{AreWarnings}
use Rattle.review_faults.proofs.warn.told.Given as goal

abbrev pub invariant-numbers : goal.invariant-numbers
invariant-numbers l = record {
  told : AreWarnings (map event_of l.events) l.source (take l.number-index l.found) l.list.items;
  here : IsPlace l.source l.at l.place.line l.place.column;
  within : l.at ≤ length l.source;
}
