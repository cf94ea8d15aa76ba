use Rattle.std.proofs.Common.{◌≡◌, ◌++◌, drop, flat_map}
use Rattle.std.specs.String.{string_bytes}
use Rattle.yaml_show.specs.Lines.{line_after}
use Rattle.yaml_show.proofs.joining.join.Given as goal

abbrev pub invariant-loop-line : goal.invariant-loop-line
invariant-loop-line l = string_bytes l.text ++ flat_map (λ line. line_after l.before (string_bytes line)) (drop l.line-index l.lines) ≡ flat_map (λ line. line_after l.before (string_bytes line)) l.lines
