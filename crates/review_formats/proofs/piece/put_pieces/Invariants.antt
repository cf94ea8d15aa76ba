use Rattle.std.proofs.Common.{◌≡◌, ◌++◌, drop}
use Rattle.std.specs.String.{string_bytes}
use Rattle.review_formats.specs.Pieces.{pieces_text}
use Rattle.review_formats.proofs.piece.put_pieces.Given as goal

abbrev pub invariant-loop-piece : goal.invariant-loop-piece
invariant-loop-piece l = string_bytes l.out ++ pieces_text (drop l.piece-index l.pieces) ≡ string_bytes l.fn.out ++ pieces_text l.pieces
