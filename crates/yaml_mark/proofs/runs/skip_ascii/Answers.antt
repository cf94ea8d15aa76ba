use Rattle.std.proofs.Common.{◌≡◌, ◌<◌, ◌+◌, ◌-◌, ◌∙◌, sym, ap, length, get_or, arith}
use Rattle.std.proofs.lemmas.List.{length-drop, get_or-drop}
use Rattle.std.proofs.lemmas.Str.{IsUtf8-had}
use Rattle.yaml_text.proofs.AsciiRuns.{crossed_front_of}
use Rattle.yaml_text.proofs.PlaceLemmas.{ascii_steps}
use Rattle.yaml_mark.specs.Classes.{class_of}
use Rattle.yaml_mark.proofs.runs.skip_ascii.Goals as goal

pub returns-then-is_ascii-clause-run : goal.returns-then-is_ascii-clause-run
returns-then-is_ascii-clause-run c = (crossed_front_of (class_of c.args.class) c.args.source.now c.args.at c.ascii_len-len.result c.as_bytes-bytes.result.now c.requires (c.as_bytes-bytes.ensures.value ∙ c.rest.ensures) c.ascii_len-len.ensures.len c.ascii_len-len.ensures.front).1

pub returns-then-is_ascii-clause-behind : goal.returns-then-is_ascii-clause-behind
returns-then-is_ascii-clause-behind c =
    let text = c.args.source.now.text.now in
    let at = c.args.at + c.ascii_len-len.result in
    let same = c.as_bytes-bytes.ensures.value ∙ c.rest.ensures in
    let len : length c.as_bytes-bytes.result.now ≡ length text - c.args.at = ap length same ∙ length-drop c.args.at text in
    let there : at < length text = omega (arith, len, c.if-len-bytes.true) in
    let byte = ap (λ z. get_or z c.ascii_len-len.result 0) same ∙ get_or-drop c.args.at text c.ascii_len-len.result 0 in
    let small : get_or c.as_bytes-bytes.result.now c.ascii_len-len.result 0 < 128 = grind (arith, c.is_ascii.ensures, c.if-is_ascii.true) in
    (ascii_steps text at _ (IsUtf8-had text c.args.source.now.utf8) (crossed_front_of (class_of c.args.class) c.args.source.now c.args.at c.ascii_len-len.result c.as_bytes-bytes.result.now c.requires (c.as_bytes-bytes.ensures.value ∙ c.rest.ensures) c.ascii_len-len.ensures.len c.ascii_len-len.ensures.front).0 there (sym byte) small).is

pub returns-else-len-bytes-clause-border : goal.returns-else-len-bytes-clause-border
returns-else-len-bytes-clause-border c = (crossed_front_of (class_of c.args.class) c.args.source.now c.args.at c.ascii_len-len.result c.as_bytes-bytes.result.now c.requires (c.as_bytes-bytes.ensures.value ∙ c.rest.ensures) c.ascii_len-len.ensures.len c.ascii_len-len.ensures.front).0

pub returns-else-len-bytes-clause-run : goal.returns-else-len-bytes-clause-run
returns-else-len-bytes-clause-run c = (crossed_front_of (class_of c.args.class) c.args.source.now c.args.at c.ascii_len-len.result c.as_bytes-bytes.result.now c.requires (c.as_bytes-bytes.ensures.value ∙ c.rest.ensures) c.ascii_len-len.ensures.len c.ascii_len-len.ensures.front).1
