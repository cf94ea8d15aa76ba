use Rattle.std.proofs.Common.{◌∙◌, ap}
use Rattle.std.specs.Str.{chars}
use Rattle.std.specs.Prelude.{slice_range}
use Rattle.std.proofs.lemmas.Str.{IsUtf8-had, IsCharBoundary-start}
use Rattle.yaml_text.proofs.PlaceLemmas.{chars_slice}
use Rattle.yaml_text.proofs.places.text_between.Goals as goal

pub rest-text-requires : goal.rest-text-requires
rest-text-requires c = IsCharBoundary-start c.args.source.now.text.now (IsUtf8-had c.args.source.now.text.now c.args.source.now.utf8)

pub returns : goal.returns
returns c =
    ap chars (c.range.ensures.value ∙ ap (λ r. slice_range r c.args.from c.args.to) c.rest-text.ensures)
    ∙ chars_slice _ _ _ (IsUtf8-had c.args.source.now.text.now c.args.source.now.utf8) c.requires.from c.requires.to c.requires.order
