use Rattle.std.proofs.Common.{drop}
use Rattle.std.specs.List.{enumerate_from}
use Rattle.std.specs.String.{string_bytes}
use Rattle.review_merge.specs.Parts.{budget}
use Rattle.review_merge.specs.Lines.{IsStyled}
use Rattle.review_merge.proofs.LineLaws.{Continues}
use Rattle.review_merge.proofs.lines.put_lines.Given as goal

abbrev pub invariant-list : goal.invariant-list
invariant-list l = Continues (IsStyled l.forests l.style) (enumerate_from 0 l.list) budget (string_bytes l.fn.out) (enumerate_from l.number (drop l.number l.list)) l.budget.bytes (string_bytes l.out)
