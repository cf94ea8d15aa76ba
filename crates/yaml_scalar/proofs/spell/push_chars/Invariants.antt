use Rattle.std.specs.String.{string_bytes}
use Rattle.std.specs.Str.Iter.{char_indices_rest, char_indices_offset}
use Rattle.yaml_scalar.specs.Spelling.{Grows}
use Rattle.yaml_scalar.proofs.SpellingLemmas.{IsSpelling}
use Rattle.yaml_scalar.proofs.spell.push_chars.Given as goal

abbrev pub invariant-spell : goal.invariant-spell
invariant-spell l = record {
  spelling : IsSpelling l.text (char_indices_rest l.at-iterator) (char_indices_offset l.at-iterator) l.run (string_bytes l.initial.out) (string_bytes l.out);
  grows : Grows (string_bytes l.initial.out) (string_bytes l.out);
}
