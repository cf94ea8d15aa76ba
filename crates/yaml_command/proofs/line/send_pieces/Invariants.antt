use Rattle.std.proofs.Common.{take}
use Rattle.std.specs.Prelude.{flat_map}
use Rattle.yaml_spell.specs.Writers.{Sent}
use Rattle.yaml_command.proofs.line.send_pieces.Given as goal

abbrev pub invariant-pieces : goal.invariant-pieces
invariant-pieces g l = Sent g.E.Write.contents l.initial.err l.err (flat_map (λ piece. piece.now) (take l.piece-index l.pieces))
