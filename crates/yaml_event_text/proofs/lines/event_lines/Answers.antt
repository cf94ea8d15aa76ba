use Rattle.yaml_read.proofs.CountLaws.{all_kept}
use Rattle.yaml_event_text.specs.LinesHeld.{LinesHold}
use Rattle.yaml_event_text.proofs.LineLaws.{if_held, was_read, was_refused}
use Rattle.yaml_event_text.proofs.lines.event_lines.Goals as goal

pub returns-in-Kept-clause-ok : goal.returns-in-Kept-clause-ok
returns-in-Kept-clause-ok c =
    if_held c.answer.result c.answer.ensures.ok (λ text q.
    let n = was_read c.read_into-read.result q.0 c.read_into-read.ensures.ok in
    (n.0, n.2, n.3, q.1 n.0 (all_kept LinesHold _ c.in-Kept.lines c.read_into-read.new.out n.0 c.new.ensures c.in-Kept.is n.1)))

pub returns-in-Kept-clause-err : goal.returns-in-Kept-clause-err
returns-in-Kept-clause-err c = was_refused _ c.read_into-read.result c.answer.result c.answer.ensures.err c.read_into-read.ensures.err

pub returns-in-Kept-clause-decides : goal.returns-in-Kept-clause-decides
returns-in-Kept-clause-decides c = was_refused _ c.read_into-read.result c.answer.result c.answer.ensures.err c.read_into-read.ensures.decides

pub returns-in-Kept-clause-placed : goal.returns-in-Kept-clause-placed
returns-in-Kept-clause-placed c = was_refused _ c.read_into-read.result c.answer.result c.answer.ensures.err c.read_into-read.ensures.placed
