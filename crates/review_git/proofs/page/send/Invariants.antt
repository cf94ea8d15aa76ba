use Rattle.std.proofs.Common.{◌-◌, ◌≤◌, length, take}
use Rattle.yaml_spell.specs.Writers.{Sent}
use Rattle.review_git.proofs.page.send.Given as goal

abbrev pub invariant-write : goal.invariant-write
invariant-write g l = Sent g.W.Write.contents l.initial.out l.out (take l.at l.text) × (l.at ≤ length l.text)

abbrev pub decreases-write : goal.decreases-write
decreases-write g l = length l.text - l.at
