use Rattle.std.proofs.lemmas.Str.{IsUtf8-had, IsCharBoundary-start}
use Rattle.yaml_text.proofs.places.is_border.Goals as goal

pub rest-requires : goal.rest-requires
rest-requires c = IsCharBoundary-start c.args.source.now.text.now (IsUtf8-had c.args.source.now.text.now c.args.source.now.utf8)
