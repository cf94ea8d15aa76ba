use Rattle.std.proofs.Common.{◌≡◌, ◌++◌, map, take}
use Rattle.yaml_diff.specs.Moves.{here, move_line_of}
use Rattle.yaml_diff.proofs.add.put_moved.Given as goal

abbrev pub invariant-loop-places : goal.invariant-loop-places
invariant-loop-places l = map move_line_of l.moves.items ≡ map move_line_of l.fn.moves.items ++ map here (take l.places-index l.moved)
