use Rattle.std.proofs.Common.{sym, ◌∙◌}
use Rattle.yaml_conflicts.proofs.StreamLaws.{stream-settled}
use Rattle.yaml_conflicts.proofs.streams.stream_conflicts.Goals as goal

pub returns-then-is_settled : goal.returns-then-is_settled
returns-then-is_settled c = record { ok = (stream-settled c.args.forests.now c.args.given c.args.roots.now c.none.result c.none.ensures.list c.none.ensures.whole (sym c.are_paired.ensures ∙ c.if-are_paired.false) (sym c.is_settled.ensures ∙ c.if-is_settled.true)) }

pub returns : goal.returns
returns c = record { ok = ((sym c.are_paired.ensures ∙ c.if-are_paired.false, sym c.is_settled.ensures ∙ c.if-is_settled.false)) }
