use Rattle.std.proofs.Common.{◌<◌}
use Rattle.yaml_store_rank.proofs.Overwriting.{Steps}
use Rattle.yaml_store_rank.proofs.settle.rises.Given as goal

abbrev pub invariant-loop-place : goal.invariant-loop-place
invariant-loop-place l = (0 < l.place) × Steps l.entries l.place
