use Rattle.std.proofs.Common.{◌≡◌, ◌<◌, ◌-◌, ◌∙◌, sym, ap, get_or, length, arith}
use Rattle.std.proofs.lemmas.List.{length-drop}
use Rattle.std.proofs.lemmas.Str.{IsUtf8-had}
use Rattle.yaml_text.proofs.PlaceLemmas.{ascii_steps, front_byte}
use Rattle.yaml_text.proofs.places.next.Goals as goal

pub returns-then-is_ascii-clause-some : goal.returns-then-is_ascii-clause-some
returns-then-is_ascii-clause-some c =
    let text = c.args.source.now.text.now in
    let bytes = c.as_bytes-bytes.result.now in
    let same = c.as_bytes-bytes.ensures.value ∙ c.rest.ensures in
    let len : length bytes ≡ length text - c.args.at = ap length same ∙ length-drop c.args.at text in
    let there : c.args.at < length text = grind (arith, len, c.is_empty.ensures, c.if-not-is_empty.true) in
    let byte : get_or text c.args.at 0 ≡ c.from.result = sym (front_byte text bytes c.args.at same) ∙ sym c.from.ensures in
    let small : c.from.result < 128 = grind (arith, c.is_ascii.ensures, c.if-is_ascii.true, c.from.ensures) in
    ascii_steps text c.args.at c.from.result (IsUtf8-had text c.args.source.now.utf8) c.requires there byte small
