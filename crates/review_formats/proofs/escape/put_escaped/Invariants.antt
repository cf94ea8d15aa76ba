use Rattle.std.proofs.Common.{◌≡◌, ◌++◌}
use Rattle.std.specs.Str.{IsUtf8}
use Rattle.std.specs.String.{string_bytes}
use Rattle.review_formats.specs.Escaped.{escaped}
use Rattle.review_formats.proofs.escape.put_escaped.Given as goal

abbrev pub invariant-chars : goal.invariant-chars
invariant-chars l =
    let rest = l.c-iterator.rest.now in
    record {
      utf8 : IsUtf8 rest;
      put : string_bytes l.out ++ escaped l.escape rest ≡ string_bytes l.fn.out ++ escaped l.escape l.text;
    }
