use Rattle.std.proofs.Common.{◌≡◌, ◌++◌, []}
use Rattle.std.specs.String.{string_bytes}
use Rattle.std.specs.Str.{encode_utf8_all}
use Rattle.yaml_definitions.specs.canonical.TagText.{encoded}
use Rattle.review_text.proofs.NodeLaws.{encoded_left}
use Rattle.review_text.proofs.text.put_encoded.Given as goal

abbrev pub invariant-loop-byte : goal.invariant-loop-byte
invariant-loop-byte l = string_bytes l.out ++ encoded_left l.tag l.byte-index ≡ string_bytes l.fn.out ++ encode_utf8_all (encoded l.tag [])
