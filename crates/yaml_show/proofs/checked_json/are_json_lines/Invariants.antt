use Rattle.std.proofs.Common.{take}
use Rattle.std.specs.List.{All}
use Rattle.std.specs.String.{string_bytes}
use Rattle.yaml_show.specs.Lines.{IsJsonLine}
use Rattle.yaml_show.proofs.checked_json.are_json_lines.Given as goal

abbrev pub invariant-loop-line : goal.invariant-loop-line
invariant-loop-line l = All (λ line. IsJsonLine (string_bytes line)) (take l.line-index l.lines)
