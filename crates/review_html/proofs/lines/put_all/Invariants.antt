use Rattle.std.proofs.Common.{map, drop}
use Rattle.std.specs.List.{enumerate_from}
use Rattle.std.specs.String.{string_bytes}
use Rattle.review_html.specs.Lines.{ShowsLine}
use Rattle.review_html.proofs.TextLaws.{GoesOn}
use Rattle.review_html.proofs.lines.put_all.Given as goal

abbrev pub invariant-lines : goal.invariant-lines
invariant-lines l = GoesOn (ShowsLine l.side l.marks) (enumerate_from 0 (map (λ one. one.now) l.fn.lines)) (string_bytes l.fn.out) (enumerate_from l.at (map (λ one. one.now) (drop l.at l.lines))) (string_bytes l.out)
