use Rattle.std.proofs.Common.{◌≡◌, ◌<◌, ◌-◌, ◌∙◌, ap, length, arith}
use Rattle.std.specs.Char.{is_ascii_alphanumeric}
use Rattle.std.proofs.lemmas.List.{length-drop}
use Rattle.yaml_text.proofs.Tests.{on_true}
use Rattle.yaml_mark.proofs.StartLemmas.{ascii_stands}
use Rattle.yaml_mark.proofs.starts.begins_word.Goals as goal

pub returns : goal.returns
returns c = on_true c.is_word_byte.result (λ t.
    let text = c.args.source.now.text.now in
    let same = c.as_bytes-bytes.ensures.value ∙ c.rest.ensures in
    let len : length c.as_bytes-bytes.result.now ≡ length text - c.args.at = ap length same ∙ length-drop c.args.at text in
    let there : c.args.at < length text = grind (arith, len, c.is_empty.ensures, c.if-is_empty.false) in
    ascii_stands is_ascii_alphanumeric c.args.source.now c.args.at c.as_bytes-bytes.result.now c.requires same there (c.is_word_byte.ensures.ascii t) (c.is_word_byte.ensures.word t))
