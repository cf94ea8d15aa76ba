use Rattle.std.proofs.Common.{◌-◌, ◌≤◌, length, take}
use Rattle.yaml_spell.specs.Writers.{Sent}
use Rattle.yaml_spell.proofs.page.write_whole.Given as goal

abbrev pub invariant-write : goal.invariant-write
invariant-write g l = Sent g.W.Write.contents l.initial.out l.out (take l.at l.piece) × (l.at ≤ length l.piece)

abbrev pub decreases-write : goal.decreases-write
decreases-write g l = length l.piece - l.at
