use Rattle.std.proofs.Common.{◌≡◌, ◌++◌, drop}
use Rattle.std.specs.Str.{encode_utf8_all}
use Rattle.std.specs.Prelude.{flat_map}
use Rattle.yaml_show_scalar.specs.Stops.{limit_of}
use Rattle.yaml_show_scalar.specs.Tags.{tag_byte}
use Rattle.yaml_show_scalar.specs.Texts.{written}
use Rattle.yaml_show_scalar.proofs.tag.put_encoded.Given as goal

abbrev pub invariant-loop-byte : goal.invariant-loop-byte
invariant-loop-byte l = (limit_of l.out ≡ limit_of l.initial.out) × (written l.out ++ encode_utf8_all (flat_map tag_byte (drop l.byte-index l.tag)) ≡ written l.initial.out ++ encode_utf8_all (flat_map tag_byte l.tag))
