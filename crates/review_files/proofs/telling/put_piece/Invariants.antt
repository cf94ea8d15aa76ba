use Rattle.std.proofs.Common.{◌-◌, ◌≤◌, length, take}
use Rattle.std.specs.Io.KnownBytes.{Appends}
use Rattle.review_files.proofs.telling.put_piece.Given as goal

abbrev pub invariant-write : goal.invariant-write
invariant-write g l = Appends (g.E.Write.contents l.initial.err) (g.E.Write.contents l.err) (take l.at l.bytes) × (l.at ≤ length l.bytes)

abbrev pub decreases-write : goal.decreases-write
decreases-write g l = length l.bytes - l.at
