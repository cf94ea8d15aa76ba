use Rattle.std.proofs.Common.{◌+◌, sym, subst, arith}
use Rattle.yaml_pair.specs.Columns.{RisesTo}
use Rattle.yaml_pair.proofs.ColumnLaws.{rises-none, rises-skip, rises-next, falls-here, rises-all}
use Rattle.yaml_pair.proofs.column.rises.Goals as goal
use Rattle.yaml_pair.proofs.column.rises.Goals.{in-Some+else-not-is_behind, in_default}

pub loop-index-init : goal.loop-index-init
loop-index-init c = rises-none c.args.column.now

pub loop-index-preserved : goal.loop-index-preserved
loop-index-preserved c = elim c.match-place.branch [
  | in-Some+else-not-is_behind w ↦
      subst (RisesTo c.args.column.now (c.loop-index.index + 1)) (sym w.last-is) (rises-next c.args.column.now c.loop-index.index c.loop-index-test.true c.loop-index.last w.in-Some.at c.loop-index.invariant w.in-Some.is (w.is_behind.ensures.0 w.if-not-is_behind.false))
  | in_default w ↦ subst (RisesTo c.args.column.now (c.loop-index.index + 1)) (sym w.last-is) (rises-skip c.args.column.now c.loop-index.index c.loop-index-test.true c.loop-index.last c.loop-index.invariant w.in_default.is)
]

pub returns-then-not-is_behind-clause-no : goal.returns-then-not-is_behind-clause-no
returns-then-not-is_behind-clause-no c = λ e. falls-here c.args.column.now c.loop-index.index c.loop-index-test.true c.loop-index.last c.in-Some.at c.loop-index.invariant c.in-Some.is (λ b. let z = c.is_behind.ensures.1 b in let f = c.if-not-is_behind.true in absurd (cc))

pub returns-clause-yes : goal.returns-clause-yes
returns-clause-yes c = λ e. rises-all c.args.column.now c.loop-index.index c.loop-index.last c.loop-index.invariant (omega arith)
