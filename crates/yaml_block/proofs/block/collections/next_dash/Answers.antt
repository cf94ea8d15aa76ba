use Rattle.yaml_text.proofs.Tests.{on_true_at, on_false_at}
use Rattle.yaml_block.proofs.LineDecisions.{no_dash_in, no_dash_first}
use Rattle.yaml_block.proofs.block.collections.next_dash.Goals as goal

pub returns-then-not-branch-clause-none : goal.returns-then-not-branch-clause-none
returns-then-not-branch-clause-none c =
    no_dash_in c.args.source.now c.args.line c.requires.line c.args.column (on_false_at c.in_ok-goes_on.field-0 c.if-not-branch.true c.in_ok-goes_on.ensures.over)

pub returns-in-None-clause-none : goal.returns-in-None-clause-none
returns-in-None-clause-none c = no_dash_first c.args.source.now c.args.line c.requires.line c.args.column c.in-None.ensures.none

pub returns-in-Some-clause-found : goal.returns-in-Some-clause-found
returns-in-Some-clause-found c = record { column = (on_true_at c.in_ok-goes_on.field-0 c.if-not-branch.false c.in_ok-goes_on.ensures.next).column; dash = c.in-Some.ensures.some }
