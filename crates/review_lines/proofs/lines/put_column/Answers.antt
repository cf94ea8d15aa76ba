use Rattle.std.proofs.Common.{rules}
use Rattle.review_text.proofs.HiddenLaws.{visible_none}
use Rattle.review_lines.proofs.lines.put_column.Goals as goal

pub returns-in_default : goal.returns-in_default
returns-in_default c = record { ok = (search (rules, visible_none)) }
