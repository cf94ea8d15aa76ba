use Rattle.std.proofs.Common.{◌≡◌, ◌^◌, ◌<◌, ◌≤◌}
use Rattle.std.specs.Prelude.{slice_range}
use Rattle.std.specs.Char.{is_ascii_hexdigit}
use Rattle.std.specs.Str.Parse.{digits_value}
use Rattle.yaml_text.specs.Source.{text_of, place_of, IsBorder}
use Rattle.yaml_definitions.specs.grammar.Rules.{exactly}
use Rattle.yaml_scalar.proofs.escape.read_numbered.Given as goal

abbrev pub invariant-digits : goal.invariant-digits
invariant-digits l = record {
  border : IsBorder l.source l.here;
  onward : l.at ≤ l.here;
  digits : exactly (text_of l.source) l.done is_ascii_hexdigit (place_of l.source l.at) (place_of l.source l.here);
  value : l.number ≡ digits_value 16 (slice_range (text_of l.source) (place_of l.source l.at) (place_of l.source l.here));
  small : l.number < 16 ^ l.done;
}
