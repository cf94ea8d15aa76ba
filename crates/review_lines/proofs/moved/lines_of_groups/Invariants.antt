use Rattle.std.proofs.Common.{take, is_some}
use Rattle.review_lines.specs.Compared.{TellsGroups}
use Rattle.review_lines.proofs.moved.lines_of_groups.Given as goal

abbrev pub invariant-loop-number : goal.invariant-loop-number
invariant-loop-number l = TellsGroups (is_some l.keys) l.forests l.asked l.moves (take l.number l.groups) l.lines.items
