use Rattle.std.proofs.Common.{◌≡◌, ◌<◌, ◌+◌, ℕ, List, [], length, refl, ap, arith, length-append}
use Rattle.std.proofs.lemmas.Str.{is_utf8-from_IsUtf8}
use Rattle.percent_encoding.specs.Percent.{percent_encode}
use Rattle.yaml_definitions.specs.canonical.TagText.{encoded}
use Rattle.yaml_definitions.proofs.ProperLaws.{utf8_bytes}
use Rattle.yaml_events.specs.declared.tag.TheConstants.{ESCAPED}
use Rattle.yaml_events.proofs.Pushes.{at_error}
use Rattle.yaml_events.proofs.TagText.{encoded_whole}
use Rattle.yaml_events.proofs.tag.push_encoded.Goals as goal

pub encode-init : goal.encode-init
encode-init g c =
    let tag : List ℕ = c.args.tag.now in
    let w : percent_encode ESCAPED tag ≡ encoded tag [] = encoded_whole tag (utf8_bytes tag (is_utf8-from_IsUtf8 tag c.utf8.tag)) in
    record { text = cc (c.into_iter-piece-iterator.ensures.into_iter_gives, c.percent_encode-piece-items.ensures.text, c.as_bytes.ensures.value, w); kept = omega arith; lent = refl }

pub returns-in_err-put-clause-full : goal.returns-in_err-put-clause-full
returns-in_err-put-clause-full g c =
    let room = g.S.Sink.room in
    let bytes = g.S.Sink.bytes in
    let lengths = simp length-append at (ap length (rw c.in-Some.ensures.steps at c.encode.invariant.text)) in
    let lacks : room c.args.out.now < length (bytes c.args.out.now) + length (encoded c.args.tag.now []) =
    omega (arith, lengths, c.in_err-put.ensures.full, c.encode.invariant.kept) in
    at_error c.from_residual.result lacks
