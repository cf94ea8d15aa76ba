use Rattle.std.proofs.Common.{◌≡◌, map}
use Rattle.std.specs.List.{flat_map}
use Rattle.review_html.specs.Lines.{line_parts}
use Rattle.review_html.proofs.lines.split_lines.Given as goal

abbrev pub invariant-lines : goal.invariant-lines
invariant-lines l = map (λ one. one.now) l.lines.items ≡ flat_map line_parts (map (λ one. one.now) l.yielded)
