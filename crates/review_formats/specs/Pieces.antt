-- Pieces of which a page is made.
use Rattle.std.specs.Prelude.{ℕ, List, [], ◌∷◌, ◌++◌}
use Rattle.std.specs.Fmt.{decimal}
use Rattle.review_formats.specs.Escaped.{escaped}
use Rattle.review_formats.specs.declared.piece.Piece.{Piece}
use Rattle.review_formats.specs.declared.piece.Piece.TheVariants.{Raw, Number, Text}

-- a text of the program, a number, or the text of a file with its escapes
abbrev pub piece_text : Piece → List ℕ
piece_text (Raw text) = text.now
piece_text (Number n) = decimal n
piece_text (Text escape text) = escaped escape text.now

abbrev pub pieces_text : List Piece → List ℕ
pieces_text [] = []
pieces_text (p ∷ ps) = piece_text p ++ pieces_text ps
