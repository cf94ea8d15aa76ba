use Rattle.std.proofs.Common.{◌≡◌, ◌++◌}
use Rattle.std.specs.Str.{IsUtf8}
use Rattle.std.specs.String.{string_bytes}
use Rattle.review_text.specs.Hidden.{escaped}
use Rattle.review_text.proofs.hidden.put_escaped.Given as goal

abbrev pub invariant-chars : goal.invariant-chars
invariant-chars l =
    let rest = l.c-iterator.rest.now in
    record {
      utf8 : IsUtf8 rest;
      put : string_bytes l.out ++ escaped l.kind rest ≡ string_bytes l.fn.out ++ escaped l.kind l.text;
    }
