use Rattle.std.specs.Option.{is_some}
use Rattle.std.specs.String.{string_bytes}
use Rattle.review_merge.specs.Lines.{sides_in, IsOutcomeText}
use Rattle.review_merge.proofs.PartLaws.{if_ok}
use Rattle.review_merge.proofs.TextLaws.{asked_none, asked_some}
use Rattle.review_merge.proofs.merge.lines_of.Goals as goal

pub returns-then-print-eq0 : goal.returns-then-print-eq0
returns-then-print-eq0 c = asked_none c.args.print.lines _ _ c.if-print-eq0.true c.new.ensures.bytes

pub returns : goal.returns
returns c =
    if_ok c.text_of.result (λ out h. asked_some c.args.print.lines (IsOutcomeText c.args.forests.now c.args.print (is_some c.args.sources.result) c.args.roots.now (sides_in c.args.roots.now c.args.sources) c.args.outcome.now (string_bytes out)) (string_bytes out) c.if-print-eq0.false h) c.text_of.ensures
