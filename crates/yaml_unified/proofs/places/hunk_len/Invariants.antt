use Rattle.std.proofs.Common.{◌-◌, length}
use Rattle.yaml_unified.proofs.FramedLaws.{Reaches}
use Rattle.yaml_unified.proofs.places.hunk_len.Given as goal

abbrev pub invariant-changes : goal.invariant-changes
invariant-changes l = Reaches l.context l.first l.edits l.end

abbrev pub decreases-changes : goal.decreases-changes
decreases-changes l = length l.edits - l.end
