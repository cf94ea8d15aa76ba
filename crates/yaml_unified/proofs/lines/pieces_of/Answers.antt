use Rattle.std.proofs.lemmas.List.{nil_from_length}
use Rattle.yaml_unified.proofs.PieceLaws.{piece_next, piece_all}
use Rattle.yaml_unified.proofs.lines.pieces_of.Goals as goal

pub lines-preserved : goal.lines-preserved
lines-preserved c = piece_next _ _ _ _ _ _ _ c.in_ok-push.ensures.items c.piece_of.ensures c.in-Some.ensures.steps.1.0 c.lines.invariant

pub returns : goal.returns
returns c = record { ok = (piece_all _ _ _ (nil_from_length _ c.in-None.ensures.steps.1.0) c.lines.invariant) }
