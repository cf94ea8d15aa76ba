use Rattle.std.proofs.Common.{◌≡◌, ◌++◌}
use Rattle.std.specs.String.{string_bytes}
use Rattle.review_paths.specs.Pasted.{escaped}
use Rattle.review_paths.proofs.step.put_escaped.Given as goal

abbrev pub invariant-chars : goal.invariant-chars
invariant-chars l = string_bytes l.out ++ escaped l.is_filter l.c-iterator.rest.now ≡ string_bytes l.fn.out ++ escaped l.is_filter l.text
