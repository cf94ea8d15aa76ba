use Rattle.std.proofs.lemmas.Str.{IsUtf8-had, IsCharBoundary-start}
use Rattle.yaml_text.specs.Source.{bytes_of}
use Rattle.yaml_canon.proofs.forest.lent.Goals as goal

pub rest-requires : goal.rest-requires
rest-requires c =
    let source = c.args.source.now in
    IsCharBoundary-start (bytes_of source) (IsUtf8-had (bytes_of source) source.utf8)
