use Rattle.std.proofs.Common.{◌≡◌, ◌++◌}
use Rattle.std.specs.Str.{IsUtf8}
use Rattle.std.specs.String.{string_bytes}
use Rattle.yaml_unified.specs.Printed.{line_text}
use Rattle.yaml_unified.proofs.printed.put_chars.Given as goal

abbrev pub invariant-chars : goal.invariant-chars
invariant-chars l =
    let rest = l.c-iterator.rest.now in
    record {
      utf8 : IsUtf8 rest;
      put : string_bytes l.out ++ line_text l.at_end rest ≡ string_bytes l.fn.out ++ line_text l.fn.at_end l.text;
    }
