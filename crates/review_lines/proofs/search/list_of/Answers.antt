use Rattle.review_lines.proofs.ListLaws.{if_ok}
use Rattle.review_lines.proofs.SideLaws.{roots_within, streams_found}
use Rattle.review_lines.proofs.search.list_of.Goals as goal

pub stream_differences-requires-clause-left : goal.stream_differences-requires-clause-left
stream_differences-requires-clause-left c = roots_within c.args.forests.now 0 c.documents-lefts.result.now c.documents-lefts.ensures c.laws.ensures

pub stream_differences-requires-clause-right : goal.stream_differences-requires-clause-right
stream_differences-requires-clause-right c = roots_within c.args.forests.now 1 c.documents-rights.result.now c.documents-rights.ensures c.laws.ensures

pub returns-clause-ok : goal.returns-clause-ok
returns-clause-ok c =
    if_ok c.stream_differences.result (λ f h. streams_found c.args.forests.now c.documents-lefts.result.now c.documents-rights.result.now c.args.room f c.documents-lefts.ensures c.documents-rights.ensures h) c.stream_differences.ensures.ok
