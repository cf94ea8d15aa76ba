use Rattle.std.proofs.Common.{◌≡◌, ◌<◌, ◌≤◌, ◌+◌, ◌^◌, length}
use Rattle.yaml_definitions.specs.model.EventText.{value_text}
use Rattle.yaml_events.proofs.measure.value_len.Given as goal

abbrev pub invariant-pieces : goal.invariant-pieces
invariant-pieces l = record {
  counted : l.len + length (value_text l.rest) ≡ length l.rest + length (value_text l.text);
  low : l.len + length l.rest ≤ length l.text + length l.text;
  small : length l.text < 2 ^ 64;
}

abbrev pub decreases-pieces : goal.decreases-pieces
decreases-pieces l = length l.rest
