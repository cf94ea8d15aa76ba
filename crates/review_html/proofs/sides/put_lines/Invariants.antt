use Rattle.std.proofs.Common.{◌≡◌, ◌++◌, map}
use Rattle.std.specs.List.{flat_map}
use Rattle.std.specs.String.{string_bytes}
use Rattle.review_html.specs.Sides.{line_text}
use Rattle.review_html.proofs.sides.put_lines.Given as goal

abbrev pub invariant-lines : goal.invariant-lines
invariant-lines l = string_bytes l.out ≡ string_bytes l.fn.out ++ flat_map line_text (map (λ line. line.now) l.yielded)
