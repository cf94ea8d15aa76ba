use Rattle.std.proofs.Common.{inl, inr}
use Rattle.yaml_text.proofs.Tests.{on_true_at, on_false_at}
use Rattle.yaml_layout.proofs.PropertyDecisions.{or_else}
use Rattle.yaml_layout.proofs.Deciding.{at_err}
use Rattle.yaml_block.specs.BlockCalls.{DecidesNextKey}
use Rattle.yaml_block.proofs.block.collections.next_colon.Goals as goal

pub returns-then-not-branch-clause-reads : goal.returns-then-not-branch-clause-reads
returns-then-not-branch-clause-reads g c = record { is = λ log h. h }

pub returns-in_err-goes_on-clause-decides : goal.returns-in_err-goes_on-clause-decides
returns-in_err-goes_on-clause-decides g c = at_err (DecidesNextKey c.args.source.now c.args.level.now c.args.line c.args.column) c.from_residual.result _ c.from_residual.ensures.1 (inr (inl c.in_err-goes_on.ensures.further))

pub returns-then-not-branch-clause-decides : goal.returns-then-not-branch-clause-decides
returns-then-not-branch-clause-decides g c = on_false_at c.in_ok-goes_on.field-0 c.if-not-branch.true c.in_ok-goes_on.ensures.over

pub returns-in_err-colon-clause-decides : goal.returns-in_err-colon-clause-decides
returns-in_err-colon-clause-decides g c =
    let next = on_true_at c.in_ok-goes_on.field-0 c.if-not-branch.false c.in_ok-goes_on.ensures.next in
    at_err (DecidesNextKey c.args.source.now c.args.level.now c.args.line c.args.column) c.from_residual-in_err-colon.result _ c.from_residual-in_err-colon.ensures.1 (or_else (λ n. inr (next, n)) c.in_err-colon.ensures.decides)

pub returns-clause-decides : goal.returns-clause-decides
returns-clause-decides g c =
    let next = on_true_at c.in_ok-goes_on.field-0 c.if-not-branch.false c.in_ok-goes_on.ensures.next in
    (c.in_ok-colon.ensures.ends, next, c.in_ok-colon.ensures.decides)
