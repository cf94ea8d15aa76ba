use Rattle.std.proofs.Common.{◌≡◌, ◌+◌, ◌*◌, ◌≤◌, length}
use Rattle.std.specs.Str.{IsUtf8}
use Rattle.yaml_scalar.specs.Spelling.{spelled_chars}
use Rattle.yaml_scalar.proofs.spell.spelled_len.Given as goal

abbrev pub invariant-measure : goal.invariant-measure
invariant-measure l =
    let rest = l.c-iterator.rest.now in
    record {
      utf8 : IsUtf8 rest;
      sum : l.len + length (spelled_chars rest) ≡ 2 + length (spelled_chars l.text);
      bound : l.len + 6 * length rest ≤ 2 + 6 * length l.text;
    }
