use Rattle.std.proofs.Common.{◌≡◌, ◌<◌, ◌≤◌, ◌+◌, length, take}
use Rattle.yaml_definitions.specs.model.EventText.{value_text}
use Rattle.yaml_events.proofs.measure.more_in_piece.Given as goal

abbrev pub invariant-measure : goal.invariant-measure
invariant-measure l = record {
  counted : l.more + l.byte-index ≡ length (value_text (take l.byte-index l.piece));
  low : l.more ≤ l.byte-index;
  short : length l.piece < 256;
}
