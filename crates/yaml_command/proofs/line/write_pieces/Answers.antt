use Rattle.std.specs.Prelude.{flat_map}
use Rattle.yaml_command.proofs.PageLaws.{unflushed}
use Rattle.yaml_command.proofs.line.write_pieces.Goals as goal

pub returns-in-Err-clause-err : goal.returns-in-Err-clause-err
returns-in-Err-clause-err g c =
    unflushed g.E.Write.contents c.args.err.now c.send_pieces.new.err c.flush.new.self (flat_map (λ piece. piece.now) c.args.pieces.now) c.requires c.in_ok-send_pieces.ensures.ok c.in-Err.ensures.bytes c.in-Err.ensures.faults
