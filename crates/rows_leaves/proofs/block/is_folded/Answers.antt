use Rattle.std.proofs.lemmas.Str.{IsUtf8-had, IsCharBoundary-start}
use Rattle.rows_leaves.proofs.block.is_folded.Goals as goal

pub read_folded-requires : goal.read_folded-requires
read_folded-requires c =
    let source = c.in_ok-source.source in
    IsCharBoundary-start source.text.now (IsUtf8-had source.text.now source.utf8)
