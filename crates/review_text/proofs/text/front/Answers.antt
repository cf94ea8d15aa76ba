use Rattle.std.proofs.Common.{◌∙◌}
use Rattle.std.proofs.lemmas.Slice.{between_from_start}
use Rattle.review_text.proofs.ShownLaws.{front_is}
use Rattle.review_text.proofs.text.front.Goals as goal

pub returns : goal.returns
returns c = let f = c.floor_char_boundary.ensures in c.range.ensures.value ∙ between_from_start c.args.text.now c.floor_char_boundary.result ∙ front_is c.args.text.now c.args.room c.floor_char_boundary.result f.bound f.boundary f.nearest
