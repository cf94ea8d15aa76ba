use Rattle.std.proofs.Common.{◌<◌, length}
use Rattle.yaml_store_rank.proofs.lists.Lists.end_in_run.Given as goal

abbrev pub invariant-loop-start : goal.invariant-loop-start
invariant-loop-start l = l.start < length l.slots

abbrev pub decreases-loop-start : goal.decreases-loop-start
decreases-loop-start l = l.start
