use Rattle.std.proofs.Common.{◌≡◌, ◌++◌}
use Rattle.std.specs.Str.{IsUtf8}
use Rattle.std.specs.String.{string_bytes}
use Rattle.review_text.specs.Alike.{seen_char}
use Rattle.review_text.specs.Hidden.{spelled}
use Rattle.review_text.proofs.alike.put_look.Given as goal

abbrev pub invariant-chars : goal.invariant-chars
invariant-chars l =
    let rest = l.c-iterator.rest.now in
    record {
      utf8 : IsUtf8 rest;
      put : string_bytes l.out ++ spelled seen_char rest ≡ string_bytes l.fn.out ++ spelled seen_char l.text;
    }
