use Rattle.std.proofs.Common.{arith}
use Rattle.review_formats.proofs.PieceLaws.{pieces_next, pieces_all}
use Rattle.review_formats.proofs.piece.put_pieces.Goals as goal

pub loop-piece-preserved : goal.loop-piece-preserved
loop-piece-preserved c = pieces_next c.args.pieces.now c.loop-piece.piece-index _ _ _ _ (omega (arith, c.loop-piece-test.true)) c.loop-piece.invariant c.in_ok-put_piece.ensures.ok

pub returns : goal.returns
returns c = record { ok = (pieces_all c.args.pieces.now c.loop-piece.piece-index _ _ (omega (arith, c.loop-piece-test.false)) c.loop-piece.invariant) }
