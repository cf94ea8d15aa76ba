use Rattle.std.proofs.Common.{◌∙◌, ap, subst, arith}
use Rattle.std.specs.List.{All}
use Rattle.std.specs.String.{string_bytes}
use Rattle.std.proofs.lemmas.List.{take_all}
use Rattle.yaml_show.specs.Lines.{IsJsonLine}
use Rattle.yaml_show.proofs.CheckedJson.{all_next}
use Rattle.yaml_show.proofs.checked_json.are_json_lines.Goals as goal

pub loop-line-preserved : goal.loop-line-preserved
loop-line-preserved c =
    let is = c.as_str.ensures.value ∙ ap string_bytes c.line-item.is in
    let here = subst IsJsonLine is (c.in_ok-is_json_line.ensures.json c.if-not-branch.false) in
    all_next (λ line. IsJsonLine (string_bytes line)) c.args.lines.now c.loop-line.line-index c.line-item.result (omega arith) c.loop-line.invariant here

pub returns-clause-json : goal.returns-clause-json
returns-clause-json c = λ e. subst (All (λ line. IsJsonLine (string_bytes line))) (take_all c.loop-line.line-index c.args.lines.now (omega arith)) c.loop-line.invariant
