use Rattle.std.proofs.Common.{◌≡◌, ◌<◌, ◌≤◌, ◌+◌, ◌*◌, ◌^◌, [], length, take}
use Rattle.yaml_definitions.specs.canonical.TagText.{encoded}
use Rattle.yaml_events.proofs.measure.encoded_len.Given as goal

abbrev pub invariant-encode : goal.invariant-encode
invariant-encode l = record {
  counted : l.len + l.byte-index ≡ length l.tag + length (encoded (take l.byte-index l.tag) []);
  low : l.len ≤ length l.tag + 2 * l.byte-index;
  small : length l.tag < 2 ^ 64;
}
