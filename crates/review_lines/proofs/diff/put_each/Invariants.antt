use Rattle.std.proofs.Common.{◌≡◌, ◌++◌, drop}
use Rattle.std.specs.String.{string_bytes}
use Rattle.review_lines.specs.Lines.{lines_text}
use Rattle.review_lines.proofs.diff.put_each.Given as goal

abbrev pub invariant-loop-line : goal.invariant-loop-line
invariant-loop-line l = string_bytes l.text ++ lines_text l.asked (drop l.line-index l.lines) ≡ string_bytes l.fn.text ++ lines_text l.asked l.lines
