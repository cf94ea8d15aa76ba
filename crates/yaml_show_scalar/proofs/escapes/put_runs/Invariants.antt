use Rattle.std.proofs.Common.{◌≡◌}
use Rattle.std.specs.Str.Iter.{char_indices_rest, char_indices_offset}
use Rattle.yaml_show_scalar.specs.Stops.{limit_of}
use Rattle.yaml_show_scalar.specs.Texts.{written}
use Rattle.yaml_show_scalar.proofs.EscapeLaws.{IsEscaping}
use Rattle.yaml_show_scalar.proofs.escapes.put_runs.Given as goal

abbrev pub invariant-spell : goal.invariant-spell
invariant-spell l = (limit_of l.out ≡ limit_of l.initial.out) × IsEscaping l.language l.text (char_indices_rest l.at-iterator) (char_indices_offset l.at-iterator) l.run (written l.initial.out) (written l.out)
